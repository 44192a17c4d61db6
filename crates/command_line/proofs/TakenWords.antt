-- Words that the stated command takes name one of its commands, and are taken but for kinds that are none.
use Rattle.scop_syntax.proofs.Common.{◌≡◌, ◌∙◌, sym, subst, ap, refl, inl, inr, Bool, true, false, cond, List, [], ◌∷◌}
use Rattle.scop_syntax.proofs.Common.{Option, None, Some, is_some, ◌⊎◌, codes, In, in_map}
use Rattle.std.specs.Prelude.{option_map}
use Rattle.std.specs.List.{find}
use Rattle.clap.specs.Kinds.{Kinds, or_else}
use Rattle.clap.specs.Faults.{check_fault, defaults_fault, entered_fault, fault_of, level_fault, settle_fault, walk_fault}
use Rattle.clap.specs.Walk.{Held, Names, Row, Text, answers_to, finished, nothing_held, rows_after, settled, stop_after}
use Rattle.clap.specs.Walk.{walk, walk_from}
use Rattle.clap.specs.Simple.{Shape, argument_words, built, entered, label_of, names_of, rows_at, subcommand_of}
use Rattle.command_line.proofs.NumberRows.{none_behind}
use Rattle.command_line.specs.Command.{IsTaken, NamesCommand, NamesNoKind, NamesNoSync, command_met, command_named}
use Rattle.command_line.specs.Command.{command_names, kernel_of, kind_in, run_options_in, sync_in}
use Rattle.command_line.specs.declared.command.Command.TheVariants.{Gen, Run}
use Rattle.command_line.specs.declared.command.Sync.{Sync}
use Rattle.command_line.specs.declared.command.Sync.TheVariants.{Waves}
use Rattle.kernel_gen.specs.declared.kind.Kind.{Kind}
use Rattle.command_line.specs.Stated.{tool}

-- where a level of a parse fails by no kind, its last check does not
last_check : (s : Shape) (names : Names) (h : Held) (words : List Text) (met : Bool) (below : Kinds)
    → level_fault s names h words met below ≡ [] → (rows : List Row) × (check_fault s rows met ≡ [])
last_check s names h words met below none =
    let end = (walk s.rules names h words).held in
    let defaults = defaults_fault (settled s.rules end).rows s.rules in
    let check = check_fault s (finished s.rules end) met in
    let settles = settle_fault s.rules s.args_override_self end in
    let behind_walk = none_behind (walk_fault s names (walk_from h) words)
    (or_else below (or_else settles (or_else defaults check))) none in
    let behind_below = none_behind below (or_else settles (or_else defaults check)) behind_walk in
    let behind_settles = none_behind settles (or_else defaults check) behind_below in
    (finished s.rules end, none_behind defaults check behind_settles)

-- of some commands the one that answers to a word
answering : (shapes : List Shape) (answers : Shape → Bool) (words : List Text)
    → is_some (option_map (λ s. rows_at s words) (find answers shapes)) ≡ true
    → (one : Shape) × In one shapes
    × (option_map (λ s. rows_at s words) (find answers shapes) ≡ Some (rows_at one words))
answering [] answers words some = cc
answering (s ∷ shapes) answers words some = go (answers s) refl (answering shapes answers words)
  where
    Met : Bool → Option (Text × List Row)
    Met b = option_map (λ s. rows_at s words) (cond b (Some s) (find answers shapes))

    go : (b : Bool) → answers s ≡ b
        → (is_some (Met false) ≡ true → (one : Shape) × In one shapes × (Met false ≡ Some (rows_at one words)))
        → (one : Shape) × In one (s ∷ shapes) × (Met (answers s) ≡ Some (rows_at one words))
    go true is behind = (s, inl refl, ap Met is)
    go false is behind =
        let found = behind (sym (ap is_some (ap Met is)) ∙ some) in
        (found.0, inr found.1, ap Met is ∙ found.2)

-- the command at which a parse stopped
stopped_at : (stop : Option (Text × List Text)) → is_some (entered (built tool) stop) ≡ true
    → (name : Text) × In name command_names × (rows : List Row) × (entered (built tool) stop ≡ Some (name, rows))
stopped_at None some = cc
stopped_at (Some stop) some =
    let subs = (built tool).subs in
    let found = answering subs (λ s. answers_to stop.0 (label_of s)) stop.1 some in
    (found.0.name, in_map (λ s. s.name) found.0 subs found.1, rows_after found.0.rules [] stop.1, found.2)

-- the stated command wants one of its commands
wants_one : (rows : List Row) (met : Bool) → check_fault (built tool).top rows met ≡ [] → met ≡ true
wants_one rows true none = refl
wants_one rows false none = cc

-- words that the stated command takes name one of its commands
pub names_one : (words : List Text) → fault_of tool words ≡ []
    → (name : Text) × In name command_names × NamesCommand name words
names_one words faultless =
    let a = built tool in
    let stop = stop_after a.top.rules (names_of a) (argument_words tool words) in
    let last = last_check a.top (names_of a) nothing_held (argument_words tool words) (is_some (entered a stop))
    (entered_fault a stop) faultless in
    let named = stopped_at stop (wants_one last.0 (is_some (entered a stop)) last.1) in
    (named.0, named.1, (named.2, named.3))

-- that some command of this name with these matches is asked for
abbrev IsAsked : List Row → Text → Type 0
IsAsked rows name = is_some (command_named (name, rows)) ≡ true

-- one of the names that are judged beside the stated command is none
abbrev IsNone : List Row → Text → Type 0
IsNone rows name =
    ((name ≡ codes "gen") × (kind_in rows ≡ None)) ⊎ ((name ≡ codes "run") × (sync_in rows ≡ None))

-- a command of the stated one is asked for, unless it is `gen` with a kind that is none, or `run` with such a value
-- of `--sync`
asked_or_none : (name : Text) (rows : List Row) → In name command_names → IsAsked rows name ⊎ IsNone rows name
asked_or_none name rows (inl is) = go (sync_in rows) refl
  where
    go : (sync : Option Sync) → sync_in rows ≡ sync → IsAsked rows name ⊎ IsNone rows name
    go None none = inr (inr (is, none))
    go (Some sync) some =
        let asked : IsAsked rows (codes "run") =
        ap (λ (s : Option Sync). is_some (option_map (λ sync. Run (run_options_in sync rows)) s)) some in
        inl (subst (IsAsked rows) (sym is) asked)
asked_or_none name rows (inr (inl is)) = inl (subst (IsAsked rows) (sym is) refl)
asked_or_none name rows (inr (inr (inl is))) = inl (subst (IsAsked rows) (sym is) refl)
asked_or_none name rows (inr (inr (inr (inl is)))) = inl (subst (IsAsked rows) (sym is) refl)
asked_or_none name rows (inr (inr (inr (inr (inl is))))) = inl (subst (IsAsked rows) (sym is) refl)
asked_or_none name rows (inr (inr (inr (inr (inr (inr (inl is))))))) = inl (subst (IsAsked rows) (sym is) refl)
asked_or_none name rows (inr (inr (inr (inr (inr (inl is)))))) = go (kind_in rows) refl
  where
    go : (kind : Option Kind) → kind_in rows ≡ kind → IsAsked rows name ⊎ IsNone rows name
    go None none = inr (inl (is, none))
    go (Some kind) some =
        let asked : IsAsked rows (codes "gen") =
        ap (λ (k : Option Kind). is_some (option_map (λ generated. Gen generated (run_options_in Waves rows))
        (option_map (kernel_of rows) k))) some in
        inl (subst (IsAsked rows) (sym is) asked)
asked_or_none name rows (inr (inr (inr (inr (inr (inr (inr none))))))) = absurd none

-- words that the stated command takes are taken, unless one of these names is none
pub taken_or_none : (words : List Text) → fault_of tool words ≡ []
    → IsTaken words ⊎ (NamesNoKind words ⊎ NamesNoSync words)
taken_or_none words faultless =
    let named = names_one words faultless in
    go named.0 named.2.0 named.2.1 (asked_or_none named.0 named.2.0 named.1)
  where
    go : (name : Text) (rows : List Row) → subcommand_of tool words ≡ Some (name, rows)
        → IsAsked rows name ⊎ IsNone rows name → IsTaken words ⊎ (NamesNoKind words ⊎ NamesNoSync words)
    go name rows named (inl asked) = inl (faultless, ap (λ met. is_some (command_met met)) named ∙ asked)
    go name rows named (inr (inl other)) = inr (inl (rows, named ∙ ap (λ n. Some (n, rows)) other.0, other.1))
    go name rows named (inr (inr other)) = inr (inr (rows, named ∙ ap (λ n. Some (n, rows)) other.0, other.1))
