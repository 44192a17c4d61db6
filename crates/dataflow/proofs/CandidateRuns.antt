-- The run over a read's candidates, one by one, and the sources of reads, one by one.
use Rattle.dataflow.proofs.Common.{◌≡◌, ℕ, zero, suc, ◌+◌, ◌-◌, ◌<◌, ◌≤◌, Bool, true, false, List, [], ◌∷◌, ◌++◌, drop}
use Rattle.dataflow.proofs.Common.{get_or, length, map, ℤ, Option, Some, Result, Ok, Err, refl, sym, ap, ap₂, subst}
use Rattle.dataflow.proofs.Common.{◌∙◌, arith, add-one, drop-cons, slice_get, nat_eq, nat_lt, if◌then◌else◌, eqb-true}
use Rattle.dataflow.proofs.Common.{Cell, HasParameters, In, Program, Visit, walk_of, place_of, IsKernel, Placed}
use Rattle.dataflow.proofs.Common.{statements_of, Tree, Postfix, tree_of, join, join_count, node_limit, leaf_limit}
use Rattle.dataflow.proofs.Common.{LeavesWithin, join_within, value, Modelled, KernelModel, modelled, model_of}
use Rattle.dataflow.proofs.Common.{IsKernelModel, model_is_one, TouchesAt, Dependence, IsSourceOf, AreSources}
use Rattle.dataflow.proofs.Common.{reads_from, reads_in, reads_of_statement, reads_of, Names, Stopped, writers_run}
use Rattle.dataflow.proofs.Common.{candidates_of, is_candidate, chosen_deps, turns_in, read_variables, Halt, then_join}
use Rattle.dataflow.proofs.Common.{sources_run, writer_end, reader_end, wanted_writer}
use Rattle.scop_syntax.proofs.Common.{append_assoc}
use Rattle.std.proofs.lemmas.List.{append-nil}
use Rattle.quast_trees.specs.Tree.{initial}
use Rattle.quast_joins.specs.Counts.{capped}
use Rattle.quast_joins.specs.Limits.{most_told}
use Rattle.quast_joins.specs.declared.way.Way.{Way}
use Rattle.dataflow.specs.ReadSources.{NameWriters}
use Rattle.dataflow.specs.WriterRuns.{solve_run}
use Rattle.dataflow.specs.steps.Steps.{IsJoinable, GoesOn, GainsSources}
use Rattle.dataflow.specs.declared.source.ReadSource.{ReadSource}
use Rattle.dataflow.specs.declared.reads.Halted.TheVariants as halt
use Rattle.dataflow.specs.declared.source.ReadSource.TheVariants as source
use Rattle.dataflow.specs.declared.source.SourceStop.TheVariants as stop

-- a join with too many nodes ends the run
pub joins_too_many : (way : Way) (model : KernelModel) (budget n : ℕ) (first second : Tree) (dep : Dependence)
    (told : ℕ) → solve_run way model budget dep ≡ Ok second → node_limit < join_count first second
    → told ≡ capped most_told (join_count first second)
    → GoesOn way model budget n first dep (Err (halt.Stop (stop.Join told)))
joins_too_many way model budget n first second dep told e many is = λ deps.
    let go_on : Tree → Result Tree (Halt Stopped) = λ t. sources_run way n (solve_run way model budget) t deps in
    let b : nat_lt node_limit (join_count first second) ≡ true = grind arith in
    (join_count first second, ap (λ (r : Result Tree Stopped). then_join way n first r go_on) e ∙ rw b refl, is)

-- a join that is made goes on
pub joins_on : (way : Way) (model : KernelModel) (budget n : ℕ) (first second quast : Postfix) (dep : Dependence)
    → solve_run way model budget dep ≡ Ok (tree_of second) → join_count (tree_of first) (tree_of second) ≤ node_limit
    → IsJoinable n first → IsJoinable n second → quast.parameters ≡ first.parameters
    → tree_of quast ≡ join way first.parameters (tree_of first) (tree_of second)
    → GoesOn way model budget n (tree_of first) dep (Ok quast)
joins_on way model budget n first second quast dep e few own other over is =
    let joined : tree_of quast ≡ join way n (tree_of first) (tree_of second) =
    is ∙ ap (λ (i : ℕ). join way i (tree_of first) (tree_of second)) own.parameters in
    let b : nat_lt node_limit (join_count (tree_of first) (tree_of second)) ≡ false = grind arith in (
      record {
        parameters = over ∙ own.parameters;
        leaves = subst (LeavesWithin leaf_limit) (sym joined)
            (join_within way leaf_limit n (tree_of first) (tree_of second) (omega arith) own.leaves other.leaves);
      },
      λ deps.
          let go_on : Tree → Result Tree (Halt Stopped) = λ t. sources_run way n (solve_run way model budget) t deps in
          ap (λ (r : Result Tree Stopped). then_join way n (tree_of first) r go_on) e
          ∙ rw b (ap go_on (sym joined)),
    )

-- the dependence at a place, and those behind it
pub deps_at : (deps : List Dependence) (i : ℕ) (dep : Dependence) → dep ≡ get_or deps i dep → i < length deps
    → drop i deps ≡ dep ∷ drop (i + 1) deps
deps_at deps i dep found h =
    let first : drop i deps ≡ get_or deps i dep ∷ drop (i + 1) deps = rw (add-one, drop-cons deps i dep h) refl in
    first ∙ ap (λ (d : Dependence). d ∷ drop (i + 1) deps) (sym found)

-- one dependence further
pub taken : (test : Dependence → Bool) (deps : List Dependence) (i : ℕ) (dep : Dependence)
    → dep ≡ get_or deps i dep → i < length deps → test dep ≡ true
    → chosen_deps test (drop i deps) ≡ dep ∷ chosen_deps test (drop (i + 1) deps)
taken test deps i dep found h is = ap (chosen_deps test) (deps_at deps i dep found h) ∙ rw is refl

pub left_out : (test : Dependence → Bool) (deps : List Dependence) (i : ℕ) (dep : Dependence)
    → dep ≡ get_or deps i dep → i < length deps → test dep ≡ false
    → chosen_deps test (drop i deps) ≡ chosen_deps test (drop (i + 1) deps)
left_out test deps i dep found h is = ap (chosen_deps test) (deps_at deps i dep found h) ∙ rw is refl

-- a candidate's reader is the statement of the access
pub reader_is : (way : Way) (statement access : ℕ) (dep : Dependence) → is_candidate way statement access dep ≡ true
    → (reader_end way dep).statement ≡ statement
reader_is way statement access dep h =
    by_first (nat_eq (reader_end way dep).statement statement) refl h
  where
    by_first : (b : Bool) → nat_eq (reader_end way dep).statement statement ≡ b
        → (if b then (if nat_eq (reader_end way dep).access access then nat_eq (writer_end way dep).access 0 else false)
        else false) ≡ true
        → (reader_end way dep).statement ≡ statement
    by_first true e g = eqb-true (reader_end way dep).statement statement e
    by_first false e g = absurd cc

-- how many variables the quast of a statement's read speaks of
pub variables_are : (model : KernelModel) (s : Modelled)
    → ((k : ℕ) (t : Modelled) → slice_get model.statements k ≡ Some t → t.number ≡ k) → In s model.statements
    → read_variables model s.number ≡ model.parameters + s.domain.dimensions
variables_are model s places h =
    let p = place_of model.statements s h in
    let at : slice_get model.statements s.number ≡ Some s =
    subst (λ (k : ℕ). slice_get model.statements k ≡ Some s) (sym (places p.0 s p.1)) p.1 in
    ap (λ (o : Option Modelled). model.parameters + turns_in o) at

-- sources behind others
pub sources-append : (way : Way) (model : KernelModel) (budget : ℕ) (rs qs : List (ℕ × ℕ)) (ss us : List ReadSource)
    → AreSources way model budget rs ss → AreSources way model budget qs us
    → AreSources way model budget (rs ++ qs) (ss ++ us)
sources-append way model budget [] qs [] us h k = k
sources-append way model budget [] qs (s ∷ ss) us h k = absurd h
sources-append way model budget (r ∷ rs) qs [] us h k = absurd h
sources-append way model budget (r ∷ rs) qs (s ∷ ss) us h k = (h.0, sources-append way model budget rs qs ss us h.1 k)

-- the source at a place
pub source_at : (way : Way) (model : KernelModel) (budget : ℕ) (rs : List (ℕ × ℕ)) (ss : List ReadSource) (k : ℕ)
    (r : ℕ × ℕ) (s : ReadSource) → AreSources way model budget rs ss → slice_get rs k ≡ Some r → slice_get ss k ≡ Some s
    → IsSourceOf way model budget r.0 r.1 s
source_at way model budget [] ss k r s h a b = absurd cc
source_at way model budget (q ∷ rs) [] k r s h a b = absurd h
source_at way model budget (q ∷ rs) (u ∷ ss) zero r s h a b =
    let e : q ≡ r = cc in
    let f : u ≡ s = cc in
    subst (λ (z : ℕ × ℕ). IsSourceOf way model budget z.0 z.1 s) e (subst (IsSourceOf way model budget q.0 q.1) f h.0)
source_at way model budget (q ∷ rs) (u ∷ ss) (suc k) r s h a b = source_at way model budget rs ss k r s h.1 a b

-- the run of a read with the quast so far, from a dependence on
pub record Running (way : Way) (model : KernelModel) (budget statement access : ℕ) (deps : List Dependence) (i : ℕ)
    (found : Postfix)
    : Type 0 where
  pub joinable : IsJoinable (read_variables model statement) found
  pub run : sources_run way (read_variables model statement) (solve_run way model budget) (tree_of found)
      (chosen_deps (is_candidate way statement access) (drop i deps)) ≡ writers_run way model budget statement access

-- a candidate more
pub run_on : (way : Way) (model : KernelModel) (budget statement access : ℕ) (deps : List Dependence) (i : ℕ)
    (found next : Postfix) (dep : Dependence) → Running way model budget statement access deps i found → dep ≡ get_or deps i dep
    → i < length deps → is_candidate way statement access dep ≡ true
    → GoesOn way model budget (read_variables model (reader_end way dep).statement) (tree_of found) dep (Ok next)
    → Running way model budget statement access deps (i + 1) next
run_on way model budget statement access deps i found next dep r here h is goes =
    let n = read_variables model statement in
    let solve = solve_run way model budget in
    let test = is_candidate way statement access in
    let rest = chosen_deps test (drop (i + 1) deps) in
    let on : GoesOn way model budget n (tree_of found) dep (Ok next) =
    subst (λ (k : ℕ). GoesOn way model budget (read_variables model k) (tree_of found) dep (Ok next))
    (reader_is way statement access dep is) goes in
    record {
      joinable = on.0;
      run = sym (on.1 rest) ∙ (ap (sources_run way n solve (tree_of found)) (sym (taken test deps i dep here h is))
          ∙ r.run);
    }

-- no candidate
pub run_past : (way : Way) (model : KernelModel) (budget statement access : ℕ) (deps : List Dependence) (i : ℕ)
    (found : Postfix) (dep : Dependence) → Running way model budget statement access deps i found → dep ≡ get_or deps i dep
    → i < length deps → is_candidate way statement access dep ≡ false
    → Running way model budget statement access deps (i + 1) found
run_past way model budget statement access deps i found dep r here h is =
    record {
      joinable = r.joinable;
      run = ap (sources_run way (read_variables model statement) (solve_run way model budget) (tree_of found))
          (sym (left_out (is_candidate way statement access) deps i dep here h is)) ∙ r.run;
    }

-- sources of the first reads, and those that are left
pub record Gathered (way : Way) (model : KernelModel) (budget : ℕ) (whole rest : List (ℕ × ℕ))
    (sources : List ReadSource) : Type 0 where
  pub done : List (ℕ × ℕ)
  pub are : AreSources way model budget done sources
  pub left : done ++ rest ≡ whole

-- a read's more
pub read_gathered : (way : Way) (model : KernelModel) (budget statement k count : ℕ) (whole : List (ℕ × ℕ))
    (old new : List ReadSource) (source : ReadSource) → k < count
    → Gathered way model budget whole (reads_from statement k (count - k)) old
    → IsSourceOf way model budget statement k source
    → new ≡ old ++ source ∷ [] → Gathered way model budget whole (reads_from statement (k + 1) (count - (k + 1))) new
read_gathered way model budget statement k count whole old new source h g is pushed =
    let e : count - k ≡ suc (count - (k + 1)) = omega arith in
    let rest = reads_from statement (k + 1) (count - (k + 1)) in
    record {
      done = g.done ++ (statement, k) ∷ [];
      are = subst (AreSources way model budget (g.done ++ (statement, k) ∷ [])) (sym pushed)
          (sources-append way model budget g.done ((statement, k) ∷ []) old (source ∷ []) g.are (is, tt));
      left = append_assoc g.done ((statement, k) ∷ []) rest
          ∙ (ap (λ (i : ℕ). g.done ++ reads_from statement k i) (sym e) ∙ g.left);
    }

-- the statement at a place, and those behind it
statements_at : (ss : List Modelled) (i : ℕ) (s : Modelled) → s ≡ get_or ss i s → i < length ss
    → drop i ss ≡ s ∷ drop (i + 1) ss
statements_at ss i s found h =
    let first : drop i ss ≡ get_or ss i s ∷ drop (i + 1) ss = rw (add-one, drop-cons ss i s h) refl in
    first ∙ ap (λ (d : Modelled). d ∷ drop (i + 1) ss) (sym found)

-- a statement's more
pub statement_gathered : (way : Way) (model : KernelModel) (budget : ℕ) (ss : List Modelled) (i : ℕ) (s : Modelled)
    (old new : List ReadSource) → s ≡ get_or ss i s → i < length ss
    → Gathered way model budget (reads_in ss) (reads_in (drop i ss)) old
    → GainsSources way model budget old new (reads_of_statement s)
    → Gathered way model budget (reads_in ss) (reads_in (drop (i + 1) ss)) new
statement_gathered way model budget ss i s old new here h g gains =
    record {
      done = g.done ++ reads_of_statement s;
      are = gains g.done g.are;
      left = append_assoc g.done (reads_of_statement s) (reads_in (drop (i + 1) ss))
          ∙ (ap (λ (xs : List Modelled). g.done ++ reads_in xs) (sym (statements_at ss i s here h)) ∙ g.left);
    }

-- the run begins with the initial value
pub run_begins : (way : Way) (model : KernelModel) (budget access : ℕ) (s : Modelled) (deps : List Dependence)
    (found : Postfix) → ((k : ℕ) (t : Modelled) → slice_get model.statements k ≡ Some t → t.number ≡ k) → In s model.statements
    → found.parameters ≡ model.parameters + s.domain.dimensions → tree_of found ≡ initial
    → chosen_deps (is_candidate way s.number access) deps ≡ candidates_of way model s.number access
    → Running way model budget s.number access deps 0 found
run_begins way model budget access s deps found places h over is candidates =
    record {
      joinable = record {
        parameters = over ∙ sym (variables_are model s places h);
        leaves = subst (LeavesWithin leaf_limit) (sym is) tt;
      };
      run = ap₂ (λ (t : Tree) (ds : List Dependence). sources_run way (read_variables model s.number)
          (solve_run way model budget) t ds) is candidates;
    }

-- all reads have their sources
pub all_gathered : (way : Way) (model : KernelModel) (budget : ℕ) (whole : List (ℕ × ℕ)) (sources : List ReadSource)
    → Gathered way model budget whole [] sources → AreSources way model budget whole sources
all_gathered way model budget whole sources g =
    subst (λ (rs : List (ℕ × ℕ)). AreSources way model budget rs sources) (sym (append-nil g.done) ∙ g.left) g.are

-- those that are resolved name the wanted writers
pub all_named : (way : Way) (model : KernelModel) (budget : ℕ) (sources : List ReadSource)
    → AreSources way model budget (reads_of model) sources
    → ((program : Program) (params : List ℤ) (j : ℕ) (w : Visit) (access : ℕ) (c : Cell) (budget : ℕ) (u : Tree)
    → HasParameters program params → TouchesAt program params j w access c
    → writers_run way (model_of program) budget w.number access ≡ Ok u
    → Names (walk_of program params) (value u (params ++ w.turns)) (wanted_writer way (walk_of program params) j c))
    → NameWriters way model sources
all_named way model budget sources are law = λ program params j w access c k quast is has touches read got.
    law program params j w access c budget (tree_of quast) has touches
    (subst (λ (m : KernelModel). writers_run way m budget w.number access ≡ Ok (tree_of quast)) is
    (source_at way model budget (reads_of model) sources k (w.number, access) (source.Resolved quast) are read got))

-- nothing is left behind the last
pub dropped : (ss : List Modelled) (i : ℕ) → length ss ≤ i → drop i ss ≡ []
dropped [] i h = drop_none i
  where
    drop_none : (i : ℕ) → drop {A = Modelled} i [] ≡ []
    drop_none zero = refl
    drop_none (suc i) = refl
dropped (s ∷ ss) zero h = absurd (omega arith)
dropped (s ∷ ss) (suc i) h = dropped ss i (omega arith)

-- places by number, in a kernel's model
pub numbers_are : (program : Program) (model : KernelModel) → IsKernel program → model ≡ model_of program
    → ((p q : Placed) → In p (statements_of program) → In q (statements_of program) → p.number ≡ q.number → p ≡ q)
    → ((k : ℕ) (p : Placed) → slice_get (statements_of program) k ≡ Some p → p.number ≡ k)
    → (k : ℕ) (t : Modelled) → slice_get model.statements k ≡ Some t → t.number ≡ k
numbers_are program model is e same number =
    let one = model_is_one program (length program.parameters)
    (map (modelled (length program.parameters)) (statements_of program)) is same number refl in
    (subst IsKernelModel (sym e) one).places
