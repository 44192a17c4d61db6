-- No quotient that an access's quast binds on the way of a walked instance is negative, and 128 bits hold the numbers by
-- which its turns are told.
use Rattle.dataflow.proofs.Common.{◌≡◌, ℕ, ◌+◌, ◌^◌, ℤ, pos, ◌≤ℤ◌, ◌<ℤ◌, List, [], ◌∷◌, ◌++◌, length, All, Option, Some}
use Rattle.dataflow.proofs.Common.{None, Result, Ok, Err, sym, ap₂, subst, ◌∙◌, refl, arith, length-append, slice_get}
use Rattle.dataflow.proofs.Common.{ints, All-head, All-tail, NotNegative, not_negative-append, Cell, Program, Visit}
use Rattle.dataflow.proofs.Common.{row_values, Counted, source_of, Tree, Speaks, BindsUp, CanTell, leaf_limit}
use Rattle.dataflow.proofs.Common.{LeavesWithin, join_within, join-speaks, Modelled, KernelModel, model_of, Dependence}
use Rattle.dataflow.proofs.Common.{parts_of, all_below, posed_context, posed_rows, top, writer_end, reader_end}
use Rattle.dataflow.proofs.Common.{writer_side, reader_side, IsCandidate, candidates_of, fitting, solve_between}
use Rattle.dataflow.proofs.Common.{sourced, turned_back, read_variables, turned_tree, turns_in, writers_run}
use Rattle.dataflow.proofs.Common.{params_not_negative}
use Rattle.wide_math.specs.declared.Wide.{Wide}
use Rattle.pip_solver.proofs.BoundSigns.{lexmin-up}
use Rattle.pip_solver.proofs.TurnNumbers.{lexmin-tells}
use Rattle.quast_trees.specs.Tree.{initial, named}
use Rattle.quast_trees.proofs.MappedTurns.{mapped_keeps, named_tells, named_up}
use Rattle.quast_joins.specs.declared.way.Way.{Way}
use Rattle.quast_joins.specs.declared.way.Way.TheVariants.{Later, Earlier}
use Rattle.quast_joins.proofs.JoinSigns.{join-up}
use Rattle.quast_joins.proofs.JoinTurns.{join-tells}
use Rattle.dataflow.specs.WriterRuns.{solve_run, posed_run}
use Rattle.dataflow.proofs.CandidateSolutions.{Reads, context_up, in_statements, reader_slot, writer_slot}
use Rattle.dataflow.proofs.Fits.{fitting_is, named_within}
use Rattle.dataflow.proofs.JoinedRuns.{run_keeps}
use Rattle.dataflow.proofs.ResolvedWriters.{AccessAt, candidate_of, candidate_solved, context-speaks, posed-speaks}
use Rattle.dataflow.proofs.ResolvedWriters.{solved_of, visit_turns}

-- a minimum turned back binds the same
back_up : (way : Way) (d : ℕ) (least back : Tree) (point : List ℤ) → turned_back way d least ≡ Ok back
    → BindsUp least point → BindsUp back point
back_up Later d least back point h ups = (mapped_keeps (all_below top d 0 d) least back h).ups point ups
back_up Earlier d least back point h ups = let same : least ≡ back = cc in subst (λ t. BindsUp t point) same ups

back_tells : (way : Way) (d : ℕ) (least back : Tree) → turned_back way d least ≡ Ok back → CanTell least
    → CanTell back
back_tells Later d least back h tells = (mapped_keeps (all_below top d 0 d) least back h).tells tells
back_tells Earlier d least back h tells = let same : least ≡ back = cc in subst CanTell same tells

-- turns are not negative
pub turns_up : (xs : List ℤ) → All (λ x. (pos 0 ≤ℤ x) × (x <ℤ pos (2 ^ 46))) xs → NotNegative xs
turns_up [] all = tt
turns_up (x ∷ xs) all = (
  (All-head (λ (z : ℤ). (pos 0 ≤ℤ z) × (z <ℤ pos (2 ^ 46))) x xs all).0,
  turns_up xs (All-tail (λ (z : ℤ). (pos 0 ≤ℤ z) × (z <ℤ pos (2 ^ 46))) x xs all),
)

-- a solved candidate binds no negative quotient on the way of a walked instance of the reader
candidate_up : (way : Way) (program : Program) (params : List ℤ) (j : ℕ) (w : Visit) (access : ℕ) (c : Cell)
    (budget : ℕ) (dep : Dependence) (tree : Tree)
    → AccessAt program params j w access c → IsCandidate way program w access dep
    → solve_run way (model_of program) budget dep ≡ Ok tree → BindsUp tree (params ++ w.turns)
unfolding solve_run
candidate_up way program params j w access c budget dep tree at cand run =
    let count = at.count in
    let model = model_of program in
    let m = length program.parameters in
    let p = parts_of model dep at.model cand.among in
    let s = (writer_side way p.from p.to).statement in
    let t = (reader_side way p.from p.to).statement in
    let d = s.domain.dimensions in
    let n = m + t.domain.dimensions in
    let point = params ++ w.turns in
    let solved = solved_of way m budget dep s t tree
    (sym (ap₂ (solve_between way m budget dep) (writer_slot way program dep p) (reader_slot way program dep p)) ∙ run) in
    let slot : slice_get model.statements w.number ≡ Some t = subst
    (λ (k : ℕ). slice_get model.statements k ≡ Some t) cand.access.statement (reader_slot way program dep p) in
    let dims = at.inside t (in_statements way program dep p) (sym (at.model.places w.number t slot)) in
    let up = params_not_negative params at.bounds in
    let reads : Reads params w.turns t = record { size = dims.0; holds = dims.1; up = up } in
    let long : length point ≡ n = (let a = length-append params w.turns in let b = dims.0 in omega arith) in
    let above : NotNegative (row_values (posed_context t m) point) = subst
    (λ (i : ℕ). NotNegative (row_values (posed_context t i) point)) count (context_up params w.turns t reads at.bounds) in
    let least = lexmin-up budget d n (posed_rows way s t m dep) (posed_context t m) solved.minimum solved.left
    (posed-speaks way s t m dep) (context-speaks t m) solved.run point long
    (not_negative-append params w.turns up (turns_up w.turns (at.small j w at.touches.place))) above in
    subst (λ (u : Tree). BindsUp u point) (sym solved.is)
    (named_up (source_of (writer_end way dep).statement s.loops) solved.back point
    (back_up way d solved.minimum solved.back point solved.turned least))

-- nor does the quast of an access that is told
pub resolved_up : (way : Way) (program : Program) (params : List ℤ) (j : ℕ) (w : Visit) (access : ℕ) (c : Cell)
    (budget : ℕ) (u : Tree)
    → AccessAt program params j w access c → writers_run way (model_of program) budget w.number access ≡ Ok u
    → BindsUp u (params ++ w.turns)
resolved_up way program params j w access c budget u at run =
    let count = at.count in
    let model = model_of program in
    let n = length program.parameters + turns_in (slice_get model.statements w.number) in
    let point = params ++ w.turns in
    let long : length point ≡ n =
    (let a = length-append params w.turns in let b = visit_turns program params at.laws j w at.touches.place in omega
    (arith, a, b, count)) in
    (run_keeps way (λ t. Speaks n t × BindsUp t point) n (solve_run way model budget)
    (λ a b x y. (join-speaks way n a b x.0 y.0, join-up way n a b point long x.0 x.1 y.1))
    (candidates_of way model w.number access) initial u
    (λ d t h is.
    let cand = candidate_of way program w access d h in (
      (candidate_solved way program params j w access c budget d t at cand is).speaks,
      candidate_up way program params j w access c budget d t at cand is,
    ))
    (tt, tt) (omega arith) run).0.1

-- a candidate between two statements is told, and its leaves are small
sourced_tells : (way : Way) (dep : Dependence) (loops : List ℕ) (r : Result Tree Wide) (tree : Tree)
    → sourced way dep loops (fitting r) ≡ Ok tree → ((back : Tree) → r ≡ Ok back → CanTell back)
    → LeavesWithin leaf_limit tree × CanTell tree
sourced_tells way dep loops r tree h tells = by_fit (fitting r) refl h
  where
    by_fit : (o : Option Tree) → fitting r ≡ o → sourced way dep loops o ≡ Ok tree
        → LeavesWithin leaf_limit tree × CanTell tree
    by_fit None e h = absurd cc
    by_fit (Some back) e h =
        let s = source_of (writer_end way dep).statement loops in
        let f = fitting_is r back e in
        let is : named s back ≡ tree = cc in
        subst (λ (t : Tree). LeavesWithin leaf_limit t × CanTell t) is
        (named_within leaf_limit s back f.1, named_tells s back (tells back f.0))

turned_tells : (way : Way) (m budget : ℕ) (dep : Dependence) (s t : Modelled) (tree : Tree) (r : Counted Tree)
    → posed_run way m budget dep s t ≡ r → turned_tree way dep s.domain.dimensions s.loops r ≡ Ok tree
    → LeavesWithin leaf_limit tree × CanTell tree
turned_tells way m budget dep s t tree (Err stop) e h = absurd cc
turned_tells way m budget dep s t tree (Ok pair) e h =
    sourced_tells way dep s.loops (turned_back way s.domain.dimensions pair.0) tree h
    (λ back is. back_tells way s.domain.dimensions pair.0 back is
    (lexmin-tells budget s.domain.dimensions (m + t.domain.dimensions) (posed_rows way s t m dep) (posed_context t m)
    pair.0 pair.1 (posed-speaks way s t m dep) (context-speaks t m) e))

solved_tells : (way : Way) (m budget : ℕ) (dep : Dependence) (s t : Option Modelled) (tree : Tree)
    → solve_between way m budget dep s t ≡ Ok tree → LeavesWithin leaf_limit tree × CanTell tree
solved_tells way m budget dep (Some s) (Some t) tree h =
    turned_tells way m budget dep s t tree (posed_run way m budget dep s t) refl h
solved_tells way m budget dep (Some s) None tree h =
    let is : initial ≡ tree = cc in subst (λ (t : Tree). LeavesWithin leaf_limit t × CanTell t) is (tt, tt)
solved_tells way m budget dep None t tree h =
    let is : initial ≡ tree = cc in subst (λ (t : Tree). LeavesWithin leaf_limit t × CanTell t) is (tt, tt)

candidate_tells : (way : Way) (model : KernelModel) (budget : ℕ) (dep : Dependence) (tree : Tree)
    → solve_run way model budget dep ≡ Ok tree → LeavesWithin leaf_limit tree × CanTell tree
unfolding solve_run
candidate_tells way model budget dep tree h =
    solved_tells way model.parameters budget dep (slice_get model.statements (writer_end way dep).statement)
    (slice_get model.statements (reader_end way dep).statement) tree h

-- the quast of an access can be told
pub resolved_tells : (way : Way) (model : KernelModel) (budget statement access : ℕ) (u : Tree)
    → writers_run way model budget statement access ≡ Ok u → LeavesWithin leaf_limit u × CanTell u
resolved_tells way model budget statement access u run =
    (run_keeps way (λ t. LeavesWithin leaf_limit t × CanTell t) (read_variables model statement)
    (solve_run way model budget)
    (λ a b x y. (
      join_within way leaf_limit (read_variables model statement) a b (omega (arith, ints)) x.0 y.0,
      join-tells way (read_variables model statement) a b x.0 y.0 x.1 y.1,
    ))
    (candidates_of way model statement access) initial u (λ d t h is. candidate_tells way model budget d t is) (tt, tt)
    (omega arith) run).0
