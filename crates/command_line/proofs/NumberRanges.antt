-- The numbers of words that are taken lie in their ranges.
use Rattle.scop_syntax.proofs.Common.{◌≡◌, sym, subst, refl, arith, ℕ, ◌≤◌, Bool, true, false, List, [], ◌∷◌, All}
use Rattle.scop_syntax.proofs.Common.{is_some, ⊤, codes, Option, None, Some, IfSome, find, if◌then◌else◌}
use Rattle.scop_syntax.proofs.Common.{option_and_then, slice_get, unwrap_or, option_map_or, bytes_eq, All-nil, All-cons}
use Rattle.scop_syntax.proofs.Common.{All-head}
use Rattle.std.specs.Prelude.{option_map}
use Rattle.std.specs.Str.Parse.{digits_value, without_leading_plus}
use Rattle.clap.specs.Faults.{check_fault, defaults_fault, entered_fault, fault_of, level_fault, settle_fault}
use Rattle.clap.specs.Faults.{walk_fault}
use Rattle.clap.specs.Kinds.{or_else}
use Rattle.clap.specs.Simple.{Shape, argument_words, built, entered, label_of, names_of, rows_at, subcommand_of}
use Rattle.clap.specs.ValueTests.{is_unsigned_in}
use Rattle.clap.specs.Values.{read_as}
use Rattle.clap.specs.Walk.{Row, Rule, Text, answers_to, finished, nothing_held, row_text}
use Rattle.clap.specs.Walk.{settled, stop_after}
use Rattle.clap.specs.Walk.{walk, walk_from}
use Rattle.clap.specs.declared.builder.value_parser.Reading.{Reading}
use Rattle.clap.specs.declared.builder.value_parser.Reading.TheVariants as reading
use Rattle.clap.specs.declared.builder.value_parser.ValueParser.TheVariants as vp
use Rattle.clap.proofs.ValueTestLemmas.{accepts-Accepts}
use Rattle.kernel_gen.specs.declared.kind.Kind.{Kind}
use Rattle.command_line.specs.Command.{AreSized, HasSize, IsTaken, budget_of, command_met, command_named, command_of}
use Rattle.command_line.specs.Command.{gen_named, kernel_command_named, kind_in, number_in, number_of}
use Rattle.command_line.specs.Command.{kernel_of, run_named, run_options_in, sync_in, usual_tile, usual_workers}
use Rattle.command_line.specs.declared.command.Command.{Command}
use Rattle.command_line.specs.declared.command.Command.TheVariants.{Check, Gen, OfKernel, Run}
use Rattle.command_line.specs.declared.command.KernelCommand.TheVariants.{Certify, Deps, Emit, Schedule}
use Rattle.command_line.specs.declared.command.Sync.{Sync}
use Rattle.command_line.specs.declared.command.Sync.TheVariants.{Waves}
use Rattle.command_line.specs.Stated.{most_moves, most_size, most_tile, most_workers, tool}
use Rattle.command_line.proofs.NumberRows.{AreWithin, AsksOf, IsWithin, found_all, level_kept, none_behind}
use Rattle.command_line.proofs.NumberRows.{none_front}

module _ (name : Text) (low high : ℕ) where
  -- wherever it is an argument of a command, it is a number of the range
  abbrev RulesAsk : List Rule → Type 0
  RulesAsk [] = ⊤
  RulesAsk (a ∷ rules) = AsksOf name low high a × RulesAsk rules

  abbrev ShapesAsk : List Shape → Type 0
  ShapesAsk [] = ⊤
  ShapesAsk (s ∷ shapes) = RulesAsk s.rules × ShapesAsk shapes

  rules_ask : (rules : List Rule) → RulesAsk rules → All (AsksOf name low high) rules
  rules_ask [] asks = All-nil (AsksOf name low high)
  rules_ask (a ∷ rules) asks = All-cons (AsksOf name low high) a rules asks.0 (rules_ask rules asks.1)

  abbrev Asked : Shape → Type 0
  Asked s = All (AsksOf name low high) s.rules

  shapes_ask : (shapes : List Shape) → ShapesAsk shapes → All Asked shapes
  shapes_ask [] asks = All-nil Asked
  shapes_ask (s ∷ shapes) asks = All-cons Asked s shapes (rules_ask s.rules asks.0) (shapes_ask shapes asks.1)

  -- the rows of the command that is met
  met_within : (met : Option Shape) (words : List Text) (named : Text) (rows : List Row)
      → ((s : Shape) → met ≡ Some s → Asked s) → option_map (λ s. rows_at s words) met ≡ Some (named, rows)
      → option_map_or (λ s. level_fault s [] nothing_held words false []) met [] ≡ [] → AreWithin name low high rows
  met_within None words named rows asked is none = absurd cc
  met_within (Some s) words named rows asked is none =
      let own = level_kept name low high s [] words false [] (asked s refl) none in
      subst (λ (p : Text × List Row). AreWithin name low high p.1) (some_is is) own
    where
      some_is : {A : Type 0} {x y : A} → Some x ≡ Some y → x ≡ y
      some_is e = cc

  entered_within : (stop : Option (Text × List Text)) (named : Text) (rows : List Row) → ShapesAsk (built tool).subs
      → entered (built tool) stop ≡ Some (named, rows) → entered_fault (built tool) stop ≡ []
      → AreWithin name low high rows
  entered_within None named rows asks is none = absurd cc
  entered_within (Some p) named rows asks is none =
      let subs = (built tool).subs in
      let answers : Shape → Bool = λ s. answers_to p.0 (label_of s) in
      met_within (find answers subs) p.1 named rows
      (λ s found. (found_all Asked answers subs s (shapes_ask subs asks) found).0) is none

  -- those of words that the stated command takes
  taken_within : (words : List Text) (named : Text) (rows : List Row) → ShapesAsk (built tool).subs
      → fault_of tool words ≡ [] → subcommand_of tool words ≡ Some (named, rows) → AreWithin name low high rows
  taken_within words named rows asks faultless is =
      let a = built tool in
      let names = names_of a in
      let said = argument_words tool words in
      let stop = stop_after a.top.rules names said in
      let end = (walk a.top.rules names nothing_held said).held in
      let rest = or_else (settle_fault a.top.rules a.top.args_override_self end)
      (or_else (defaults_fault (settled a.top.rules end).rows a.top.rules)
      (check_fault a.top (finished a.top.rules end) (is_some (entered a stop)))) in
      let behind = none_behind (walk_fault a.top names (walk_from nothing_held) said)
      (or_else (entered_fault a stop) rest) faultless in
      entered_within stop named rows asks is (none_front (entered_fault a stop) rest behind)

  -- a number of the range
  abbrev InRange : ℕ → Type 0
  InRange n = (low ≤ n) × (n ≤ high)

  text_range : (usual : ℕ) (text : Text) → InRange usual → is_unsigned_in low high text ≡ true
      → InRange (number_of usual text)
  text_range usual text standing is = go (is_unsigned_in 0 18446744073709551615 text)
    where
      go : (b : Bool) → InRange (if b then digits_value 10 (without_leading_plus text) else usual)
      go true = let read = accepts-Accepts false (vp.Unsigned low high) text is in (read.2, read.3)
      go false = standing

  row_range : (usual : ℕ) (how : Reading) (values : List Text) → InRange usual → how ≡ reading.AsWritten
      → All (λ v. is_unsigned_in low high v ≡ true) values
      → InRange (option_map_or (number_of usual) (option_map (read_as how) (slice_get values 0)) usual)
  row_range usual how [] standing is numbers = standing
  row_range usual how (v ∷ vs) standing is numbers =
      subst (λ (x : Reading). InRange (number_of usual (read_as x v))) (sym is)
      (text_range usual v standing (All-head (λ u. is_unsigned_in low high u ≡ true) v vs numbers))

  number_range : (usual : ℕ) (rows : List Row) → InRange usual → AreWithin name low high rows
      → InRange (number_in name usual rows)
  number_range usual rows standing within =
      let test : Row → Bool = λ r. bytes_eq r.id name in
      go (find test rows) (λ r is. found_all (IsWithin name low high) test rows r within is)
    where
      go : (found : Option Row)
          → ((r : Row) → found ≡ Some r → IsWithin name low high r × (bytes_eq r.id name ≡ true))
          → InRange (option_map_or (number_of usual) (option_and_then row_text found) usual)
      go None of = standing
      go (Some r) of =
          let here = of r refl in
          let own = here.0 here.1 in
          row_range usual r.reading r.values standing own.0 own.1

-- what the stated command asks of its numbers
workers_asked : ShapesAsk (codes "workers") 1 most_workers (built tool).subs
workers_asked = (
  ((refl, refl), (tt, (tt, (tt, (tt, (tt, (tt, (tt, tt)))))))),
  (
    (tt, (tt, tt)),
    (
      (tt, (tt, tt)),
      (
        (tt, (tt, (tt, tt))),
        (
          (tt, (tt, tt)),
          (
            (tt, (tt, (tt, ((refl, refl), (tt, (tt, (tt, tt))))))),
            (
              (tt, tt),
              tt,
            ),
          ),
        ),
      ),
    ),
  ),
)

tile_asked : ShapesAsk (codes "tile") 1 most_tile (built tool).subs
tile_asked = (
  (tt, ((refl, refl), (tt, (tt, (tt, (tt, (tt, (tt, tt)))))))),
  (
    (tt, (tt, tt)),
    (
      (tt, (tt, tt)),
      (
        (tt, ((refl, refl), (tt, tt))),
        (
          (tt, (tt, tt)),
          (
            (tt, (tt, (tt, (tt, ((refl, refl), (tt, (tt, tt))))))),
            (
              (tt, tt),
              tt,
            ),
          ),
        ),
      ),
    ),
  ),
)

budget_asked : ShapesAsk (codes "budget") 1 most_moves (built tool).subs
budget_asked = (
  (tt, (tt, ((refl, refl), (tt, (tt, (tt, (tt, (tt, tt)))))))),
  (
    ((refl, refl), (tt, tt)),
    (
      ((refl, refl), (tt, tt)),
      (
        ((refl, refl), (tt, (tt, tt))),
        (
          ((refl, refl), (tt, tt)),
          (
            (tt, (tt, (tt, (tt, (tt, ((refl, refl), (tt, tt))))))),
            (
              (tt, tt),
              tt,
            ),
          ),
        ),
      ),
    ),
  ),
)

size_asked : ShapesAsk (codes "size") 1 most_size (built tool).subs
size_asked = (
  (tt, (tt, (tt, (tt, (tt, (tt, (tt, (tt, tt)))))))),
  (
    (tt, (tt, tt)),
    (
      (tt, (tt, tt)),
      (
        (tt, (tt, (tt, tt))),
        (
          (tt, (tt, tt)),
          (
            (tt, (tt, ((refl, refl), (tt, (tt, (tt, (tt, tt))))))),
            (
              (tt, tt),
              tt,
            ),
          ),
        ),
      ),
    ),
  ),
)

-- rows whose numbers lie in their ranges
record AreInRange (rows : List Row) : Type 0 where
  pub workers : AreWithin (codes "workers") 1 most_workers rows
  pub tile : AreWithin (codes "tile") 1 most_tile rows
  pub budget : AreWithin (codes "budget") 1 most_moves rows
  pub size : AreWithin (codes "size") 1 most_size rows

-- a command whose numbers do
abbrev IsInRange : Command → Type 0
IsInRange c = HasSize c × (1 ≤ budget_of c) × (budget_of c ≤ most_moves)

workers_in : (rows : List Row) → AreInRange rows
    → InRange (codes "workers") 1 most_workers (number_in (codes "workers") usual_workers rows)
workers_in rows within =
    number_range (codes "workers") 1 most_workers usual_workers rows (omega arith, omega arith)
    within.workers

tile_in : (rows : List Row) → AreInRange rows
    → InRange (codes "tile") 1 most_tile (number_in (codes "tile") usual_tile rows)
tile_in rows within =
    number_range (codes "tile") 1 most_tile usual_tile rows (omega arith, omega arith)
    within.tile

budget_in : (rows : List Row) → AreInRange rows
    → InRange (codes "budget") 1 most_moves (number_in (codes "budget") most_moves rows)
budget_in rows within =
    number_range (codes "budget") 1 most_moves most_moves rows (omega arith, omega arith)
    within.budget

size_in : (rows : List Row) → AreInRange rows → InRange (codes "size") 1 most_size (number_in (codes "size") 1 rows)
size_in rows within =
    number_range (codes "size") 1 most_size 1 rows (omega arith, omega arith)
    within.size

options_sized : (sync : Sync) (rows : List Row) → AreInRange rows → AreSized (run_options_in sync rows)
options_sized sync rows within =
    let workers = workers_in rows within in
    let tile = tile_in rows within in
    record { workers_from = workers.0; workers_to = workers.1; tile_from = tile.0; tile_to = tile.1 }

run_in_range : (rows : List Row) → AreInRange rows → IfSome (run_named rows) IsInRange
run_in_range rows within = go (sync_in rows)
  where
    go : (sync : Option Sync) → IfSome (option_map (λ s. Run (run_options_in s rows)) sync) IsInRange
    go None = tt
    go (Some sync) = (options_sized sync rows within, (budget_in rows within).0, (budget_in rows within).1)

gen_in_range : (rows : List Row) → AreInRange rows → IfSome (gen_named rows) IsInRange
gen_in_range rows within = go (kind_in rows)
  where
    go : (kind : Option Kind)
        → IfSome (option_map (λ generated. Gen generated (run_options_in Waves rows)) (option_map (kernel_of rows) kind))
        IsInRange
    go None = tt
    go (Some kind) =
        let size = size_in rows within in
        let budget = budget_in rows within in
        ((size.0, size.1, options_sized Waves rows within), budget.0, budget.1)

kernel_in_range : (name : Text) (rows : List Row) → AreInRange rows
    → IfSome (option_map OfKernel (kernel_command_named (name, rows))) IsInRange
kernel_in_range name rows within =
    go (bytes_eq name (codes "schedule")) (bytes_eq name (codes "deps")) (bytes_eq name (codes "emit"))
    (bytes_eq name (codes "certify"))
  where
    go : (schedule deps emit certify : Bool)
        → IfSome (option_map OfKernel (if schedule then Some (Schedule (number_in (codes "budget") most_moves rows))
        else (if deps then Some (Deps (number_in (codes "budget") most_moves rows))
        else (if emit
        then Some (Emit (number_in (codes "tile") usual_tile rows) (number_in (codes "budget") most_moves rows))
        else (if certify then Some (Certify (number_in (codes "budget") most_moves rows)) else None))))) IsInRange
    go true deps emit certify = (tt, (budget_in rows within).0, (budget_in rows within).1)
    go false true emit certify = (tt, (budget_in rows within).0, (budget_in rows within).1)
    go false false true certify = (tile_in rows within, (budget_in rows within).0, (budget_in rows within).1)
    go false false false true = (tt, (budget_in rows within).0, (budget_in rows within).1)
    go false false false false = tt

named_in_range : (name : Text) (rows : List Row) → AreInRange rows → IfSome (command_named (name, rows)) IsInRange
named_in_range name rows within =
    go (bytes_eq name (codes "run")) (bytes_eq name (codes "gen")) (bytes_eq name (codes "check"))
  where
    go : (run gen check : Bool)
        → IfSome (if run then run_named rows else (if gen then gen_named rows
        else (if check then Some Check else option_map OfKernel (kernel_command_named (name, rows))))) IsInRange
    go true gen check = run_in_range rows within
    go false true check = gen_in_range rows within
    go false false true = (tt, omega arith, omega arith)
    go false false false = kernel_in_range name rows within

-- the numbers of a command that taken words name
pub in_range : (words : List Text) → IsTaken words → IsInRange (command_of words)
in_range words taken =
    go (subcommand_of tool words) (λ name rows is. record {
      workers = taken_within (codes "workers") 1 most_workers words name rows workers_asked taken.0 is;
      tile = taken_within (codes "tile") 1 most_tile words name rows tile_asked taken.0 is;
      budget = taken_within (codes "budget") 1 most_moves words name rows budget_asked taken.0 is;
      size = taken_within (codes "size") 1 most_size words name rows size_asked taken.0 is;
    }) taken.1
  where
    some : (c : Option Command) → IfSome c IsInRange → is_some c ≡ true
        → IsInRange (unwrap_or c (Run (run_options_in Waves [])))
    some None in_range is = absurd cc
    some (Some c) in_range is = in_range

    go : (met : Option (Text × List Row))
        → ((name : Text) (rows : List Row) → met ≡ Some (name, rows) → AreInRange rows)
        → is_some (command_met met) ≡ true → IsInRange (unwrap_or (command_met met) (Run (run_options_in Waves [])))
    go None within is = absurd cc
    go (Some p) within is = some (command_named p) (named_in_range p.0 p.1 (within p.0 p.1 refl)) is
