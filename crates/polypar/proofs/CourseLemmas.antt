-- By which plan a run goes, and whether each instance has a copy of its own.
use Rattle.scop_syntax.proofs.Common.{◌≡◌, ◌∙◌, sym, ap, subst, refl, inl, inr, arith, ℕ, suc, ℤ, Bool, true, false}
use Rattle.scop_syntax.proofs.Common.{List, [], ◌∷◌, ◌==◌, All, Option, None, Some, length, MatchOption, ⊤, All-cons}
use Rattle.scop_syntax.proofs.Common.{All-nil, Program}
use Rattle.plan_search.specs.Flow.{IsResolved}
use Rattle.tile_runs.specs.Expansions.{AreSourcesOf}
use Rattle.tile_runs.specs.Sources.{Sources}
use Rattle.loop_tree.specs.Tiling.{Tiling, kept, tiled}
use Rattle.loop_tree.specs.TilingView.{tiling_of}
use Rattle.loop_tree.specs.Tree.{Trees}
use Rattle.loop_tree.specs.View.{trees_in}
use Rattle.plan_search.specs.UnexpandedLine.{UnexpandedLine}
use Rattle.command_line.specs.declared.command.RunOptions.{RunOptions}
use Rattle.plan_search.specs.Planned.{AreExpanded, ArePlanned, AreSourcesTold, IsExpandedPlan, IsPlanned, added_in}
use Rattle.plan_search.specs.Planned.{is_tiled}
use Rattle.plan_search.specs.declared.plans.Planned.{Planned}
use Rattle.plan_search.specs.ReadSource.{ReadSource}
use Rattle.plan_search.specs.ReadSource.TheVariants as source
use Rattle.plan_search.specs.Trees.{AreFlowTreesOf, AreTreesOf}
use Rattle.polypar.specs.Expanding.{CanExpand, GoesBy, GoesIf, first_unresolved}
use Rattle.polypar.specs.Expanding.{marks_by}
use Rattle.polypar.specs.declared.expansion.Course.{Course}
use Rattle.polypar.specs.steps.Courses.{HasNoCopies, IsCourse}

-- where none is the first that is not told, all are
pub all_resolved : (sources : List ReadSource) → first_unresolved sources ≡ None → All IsResolved sources
all_resolved [] none = All-nil IsResolved
all_resolved (source.Resolved quast ∷ more) none =
    All-cons IsResolved (source.Resolved quast) more tt (all_resolved more none)
all_resolved (source.Unresolved why ∷ more) none = absurd cc

-- where none is marked
pub unmarked : (marked : List ℕ) → (length marked == 0) ≡ true → marked ≡ []
unmarked [] is = refl
unmarked (m ∷ ms) is = let many : (suc (length ms) == 0) ≡ false = grind arith in absurd cc

-- a run without marks adds to none in any order
none_in : (plan : Tiling) → added_in plan [] ≡ []
none_in kept = refl
none_in (tiled size statements) = refl

-- the trees of a plan are those of the arrays that a run by it adds to in any order
trees_added : (tile budget : ℕ) (report : Bool) (marked : List ℕ) (program : Program) (plan : Tiling) (lines : List ℕ)
    (ts : Trees) → ArePlanned tile budget report marked program plan lines ts
    → AreTreesOf program (added_in plan marked) plan ts
trees_added tile budget report marked program plan lines ts (inl is) =
    subst (λ p. AreTreesOf program (added_in p marked) plan ts) (sym is.is) is.carried
trees_added tile budget report marked program plan lines ts (inr own) =
    subst (λ p. AreTreesOf program (added_in p marked) plan ts) (sym own.is) own.carried

-- a run without copies goes by a plan as it is
goes_as_is : (options : RunOptions) (program : Program) (params : List ℤ) (told : Option UnexpandedLine) (plan : Tiling)
    (front : List ℕ) (ts : Trees) → HasNoCopies options program params told
    → ArePlanned options.tile options.budget options.report (marks_by options program) program plan front ts
    → GoesBy options program params told false plan front ts
goes_as_is options program params None plan front ts none planned =
    subst (λ (b : Bool). GoesIf b options program params None false plan front ts) (sym none)
    (refl, (refl, planned))
goes_as_is options program params (Some told) plan front ts why planned =
    subst (λ (b : Bool). GoesIf b options program params (Some told) false plan front ts) (sym why.0)
    (why.1, (refl, planned))

-- the course of a run without copies
pub as_is : (options : RunOptions) (program : Program) (params : List ℤ) (marked : List ℕ) (plan : Planned)
    (told : Option UnexpandedLine) → marked ≡ marks_by options program
    → IsPlanned options.tile options.budget options.report marked program plan → HasNoCopies options program params told
    → IsCourse options program params (record { plan = plan; sources = None; unexpanded = told })
as_is options program params marked plan told is planned why =
    let own = subst
    (λ (ms : List ℕ). ArePlanned options.tile options.budget options.report ms program (tiling_of plan.tiling)
    plan.lines.items (trees_in plan.tree)) is planned.planned in
    record {
      goes = goes_as_is options program params told (tiling_of plan.tiling) plan.lines.items (trees_in plan.tree) why
          own;
      trees = trees_added options.tile options.budget options.report (marks_by options program) program
          (tiling_of plan.tiling) plan.lines.items (trees_in plan.tree) own;
      sources = tt;
      unmarked = tt;
      fits = planned.fits;
    }

-- a run whose sources are told, and few enough, goes by a plan over them
goes_by_flow : (options : RunOptions) (program : Program) (params : List ℤ) (told : List ReadSource) (sources : Sources)
    (expanded : Bool) (plan : Tiling) (front : List ℕ) (ts : Trees) → options.expand ≡ true
    → marks_by options program ≡ [] → AreSourcesTold options.budget program told → AreSourcesOf program params sources
    → AreExpanded options.tile options.budget options.report program plan front ts → expanded ≡ is_tiled plan
    → GoesBy options program params None expanded plan front ts
goes_by_flow options program params told sources expanded plan front ts asked none are places planned is =
    let can : CanExpand options program params = record {
      unmarked = ap (λ (ms : List ℕ). length ms == 0) none;
      told = (told, are);
      few = places.few;
    } in
    subst (λ (b : Bool). GoesIf b options program params None expanded plan front ts) (sym asked) (can, is, planned)

-- the course of a run whose plan over them is tiled
pub with_copies : (options : RunOptions) (program : Program) (params : List ℤ) (told : List ReadSource)
    (sources : Sources) (plan : Planned) → options.expand ≡ true → marks_by options program ≡ []
    → AreSourcesTold options.budget program told → AreSourcesOf program params sources
    → IsExpandedPlan options.tile options.budget options.report program plan → is_tiled (tiling_of plan.tiling) ≡ true
    → AreFlowTreesOf program (tiling_of plan.tiling) (trees_in plan.tree)
    → IsCourse options program params (record { plan = plan; sources = Some sources; unexpanded = None })
with_copies options program params told sources plan asked none are places planned is trees = record {
  goes = goes_by_flow options program params told sources true (tiling_of plan.tiling) plan.lines.items
      (trees_in plan.tree) asked none are places planned.planned (sym is);
  trees = trees;
  sources = places;
  unmarked = none;
  fits = planned.fits;
}

-- the course of a run whose order is kept
pub without_copies : (options : RunOptions) (program : Program) (params : List ℤ) (told : List ReadSource)
    (sources : Sources) (plan : Planned) → options.expand ≡ true → marks_by options program ≡ []
    → AreSourcesTold options.budget program told → AreSourcesOf program params sources
    → IsExpandedPlan options.tile options.budget options.report program plan → is_tiled (tiling_of plan.tiling) ≡ false
    → AreTreesOf program [] (tiling_of plan.tiling) (trees_in plan.tree)
    → IsCourse options program params (record { plan = plan; sources = None; unexpanded = None })
without_copies options program params told sources plan asked none are places planned is trees =
    let added : added_in (tiling_of plan.tiling) (marks_by options program) ≡ [] =
    ap (added_in (tiling_of plan.tiling)) none ∙ none_in (tiling_of plan.tiling) in
    record {
      goes = goes_by_flow options program params told sources false (tiling_of plan.tiling) plan.lines.items
          (trees_in plan.tree) asked none are places planned.planned (sym is);
      trees = subst (λ (ms : List ℕ). AreTreesOf program ms (tiling_of plan.tiling) (trees_in plan.tree)) (sym added)
          trees;
      sources = tt;
      unmarked = tt;
      fits = planned.fits;
    }

-- the trees of a course are those that a run asks for
pub trees_of_course : (options : RunOptions) (program : Program) (params : List ℤ) (marked added : List ℕ) (c : Course)
    → IsCourse options program params c → marked ≡ marks_by options program
    → added ≡ added_in (tiling_of c.plan.tiling) marked
    → MatchOption c.sources (AreTreesOf program added (tiling_of c.plan.tiling) (trees_in c.plan.tree))
    (λ s. AreFlowTreesOf program (tiling_of c.plan.tiling) (trees_in c.plan.tree))
trees_of_course options program params marked added c course is same =
    subst
    (λ (ms : List ℕ). MatchOption c.sources (AreTreesOf program ms (tiling_of c.plan.tiling) (trees_in c.plan.tree))
    (λ s. AreFlowTreesOf program (tiling_of c.plan.tiling) (trees_in c.plan.tree)))
    (sym (same ∙ ap (added_in (tiling_of c.plan.tiling)) is)) course.trees

-- where each instance has a copy of its own, none is added to in any order
pub none_by_copies : {A : Type 0} (sources : Option A) (plan : Tiling) (marks marked added : List ℕ)
    → MatchOption sources ⊤ (λ s. marks ≡ []) → marked ≡ marks → added ≡ added_in plan marked
    → MatchOption sources ⊤ (λ s. added ≡ [])
none_by_copies None plan marks marked added none is same = tt
none_by_copies (Some s) plan marks marked added none is same =
    same ∙ (ap (added_in plan) (is ∙ none) ∙ none_in plan)
