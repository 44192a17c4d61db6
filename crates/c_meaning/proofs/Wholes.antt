-- Whole programs: their runs are those of their trees, and leave the arrays of the source's execution.
use Rattle.scop_syntax.proofs.Common.{◌≡◌, ◌∙◌, ap, refl, ℤ, List, [], ◌∷◌, length, map, Some, Program, IsKernel}
use Rattle.scop_syntax.proofs.Common.{IsInside, layout, performed_all, narrow_arrays, pos, negsuc, ◌≤ℤ◌, arith, ints}
use Rattle.scop_syntax.proofs.Common.{Bool, true, ◌&&◌, nat_lt, All, All-head, All-tail, Affine, value_of, values}
use Rattle.scop_syntax.proofs.Common.{size_of, Declaration}
use Rattle.std.proofs.lemmas.Bool.{lt-ltb}
use Rattle.scop_syntax.specs.Walk.{Visit as Walked}
use Rattle.scop_syntax.specs.Widths.{HoldTypes}
use Rattle.loop_tree.specs.Runs.{MayRunAll}
use Rattle.loop_tree.specs.Tree.{Trees}
use Rattle.loop_tree.specs.Walk.{Visit, given}
use Rattle.planned_trees.specs.Executions.{AreVisitsOf}
use Rattle.planned_trees.proofs.TreeRuns.{members_all}
use Rattle.c_printer.specs.Printable.{AreNodes, IsNamed}
use Rattle.c_meaning.specs.Visits.{AreRaceless, act_of}
use Rattle.c_meaning.specs.Assignments.{Contents}
use Rattle.c_meaning.specs.Narrow.{AreNarrow}
use Rattle.c_meaning.specs.Programs.{arrays_of, c_of, HaveExtents}
use Rattle.c_meaning.specs.Runs.{MayDoAll, MayCall, Outcome, left_by, are_positive, have_cells}
use Rattle.c_meaning.specs.steps.Law.{ComesTo}
use Rattle.c_meaning.proofs.FormedTrees.{flat_nodes, formed_all}
use Rattle.c_meaning.proofs.Reached.{tell_all, reach_all}
use Rattle.c_meaning.proofs.ProgramRuns.{runs_of_program, clash}
use Rattle.c_meaning.proofs.TreeRuns.{made_program}
use Rattle.c_meaning.proofs.Arrays.{acts_are}

pub program_runs : (program : Program) (ts : Trees) (params : List ℤ) → IsNamed program → AreNodes program 0 ts
    → length program.parameters ≡ length params → AreNarrow program ts params []
    → AreRaceless (act_of program params) ts params [] → (o : Outcome)
    → MayDoAll (c_of program ts) params o → ComesTo (act_of program params) (MayRunAll ts params []) o
program_runs program ts params named is count narrow free o h =
    runs_of_program program (act_of program params) ts params count (flat_nodes program 0 ts is)
    (formed_all program 0 ts params [] (count, refl) is) narrow
    (tell_all program (act_of program params) ts params [] 0 named count refl is (λ v. refl)) free o h

pub program_makes : (program : Program) (ts : Trees) (params : List ℤ) → IsNamed program → AreNodes program 0 ts
    → length program.parameters ≡ length params → AreNarrow program ts params [] → (vs : List Visit)
    → MayRunAll ts params [] vs → MayDoAll (c_of program ts) params (Some (map (act_of program params) vs))
program_makes program ts params named is count narrow vs h =
    made_program program (act_of program params) ts params count (flat_nodes program 0 ts is)
    (formed_all program 0 ts params [] (count, refl) is) narrow
    (tell_all program (act_of program params) ts params [] 0 named count refl is (λ v. refl)) vs h

-- what the arrays hold behind a run, where visits of the walk stand for its own
pub program_leaves : (program : Program) (params : List ℤ) (ts : Trees) (contents : Contents) (o : Outcome)
    (vs : List Visit) (ws : List Walked) → IsNamed program → IsKernel program → AreNodes program 0 ts
    → length program.parameters ≡ length params → AreNarrow program ts params [] → IsInside program params
    → HoldTypes (narrow_arrays program) contents → MayRunAll ts params [] vs
    → o ≡ Some (map (act_of program params) vs) → AreVisitsOf program params (map given vs) ws
    → left_by (arrays_of program params) o contents ≡ Some (performed_all (layout program params) contents ws)
program_leaves program params ts contents o vs ws named kernel is count narrow inside hold run made are =
    ap (λ (q : Outcome). left_by (arrays_of program params) q contents) made
    ∙ acts_are program params vs ws contents kernel count inside hold
    (λ v h. reach_all program ts params [] 0 named count refl is narrow v ((members_all ts params [] vs run v).0 h))
    are.walked are.instances

-- sizes that are at least 1
positive_is : (params : List ℤ) (forms : List Affine) → All (λ (form : Affine). pos 1 ≤ℤ value_of form params) forms
    → are_positive (map size_of (values forms params)) ≡ true
positive_is params [] h = refl
positive_is params (form ∷ forms) h =
    ap (λ (b : Bool). b && are_positive (map size_of (values forms params)))
    (by_sign (value_of form params) (All-head (λ (f : Affine). pos 1 ≤ℤ value_of f params) form forms h))
    ∙ positive_is params forms (All-tail (λ (f : Affine). pos 1 ≤ℤ value_of f params) form forms h)
  where
    by_sign : (z : ℤ) → pos 1 ≤ℤ z → nat_lt 0 (size_of z) ≡ true
    by_sign (pos n) l = lt-ltb 0 n (omega (arith, ints, l))
    by_sign (negsuc n) l = absurd (omega (arith, ints, l))

cells_are : (params : List ℤ) (ds : List Declaration)
    → All (λ (d : Declaration). All (λ (form : Affine). pos 1 ≤ℤ value_of form params) d.extents) ds
    → have_cells (map (λ (d : Declaration). map size_of (values d.extents params)) ds) ≡ true
cells_are params [] h = refl
cells_are params (d ∷ ds) h =
    let P : Declaration → Type 0 = λ e. All (λ (form : Affine). pos 1 ≤ℤ value_of form params) e.extents in
    ap (λ (b : Bool). b && have_cells (map (λ (e : Declaration). map size_of (values e.extents params)) ds))
    (positive_is params d.extents (All-head P d ds h))
    ∙ cells_are params ds (All-tail P d ds h)

-- a call of a function whose arrays have cells runs its body
pub call_runs : (program : Program) (ts : Trees) (params : List ℤ) (o : Outcome) → HaveExtents program params
    → MayCall (arrays_of program params) (c_of program ts) params o → MayDoAll (c_of program ts) params o
call_runs program ts params o have h = h.0 (cells_are params program.arrays have)

pub call_made : (program : Program) (ts : Trees) (params : List ℤ) (o : Outcome) → HaveExtents program params
    → MayDoAll (c_of program ts) params o → MayCall (arrays_of program params) (c_of program ts) params o
call_made program ts params o have h =
    (λ e. h, λ e. absurd (clash (have_cells (layout program params)) (cells_are params program.arrays have) e))
