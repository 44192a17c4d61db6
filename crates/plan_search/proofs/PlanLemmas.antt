-- From the parts of a plan to what is promised of it.
use Rattle.scop_syntax.proofs.Common.{◌≡◌, ◌∙◌, sym, subst, ap, inl, inr, ℕ, ◌≤◌, ℤ, Bool, List, Option, length, All}
use Rattle.scop_syntax.proofs.Common.{FitsSigned, w64, value_of, HasParameters, In, Program, Instance}
use Rattle.iteration_domains.specs.Dependence.{Dependence}
use Rattle.iteration_domains.specs.Model.{KernelModel, model_of}
use Rattle.plan_tree.specs.FmStop.{FmStop}
use Rattle.pluto_search.specs.Stuck.TheVariants as stuck
use Rattle.pluto_search.specs.Schedule.{Scheduled, IsScheduled}
use Rattle.loop_tree.specs.Tiling.{Tiling, kept, items_at}
use Rattle.loop_tree.specs.TilingView.{tiling_of as tiling_in}
use Rattle.loop_tree.specs.Tree.{Trees}
use Rattle.loop_tree.specs.View.{trees_in}
use Rattle.loop_tree.specs.Walk.{visits}
use Rattle.tile_list.specs.Tiles.{CanTile}
use Rattle.plan_tree.specs.Tilings.{schedule_tiling, statements_from}
use Rattle.plan_tree.specs.Trees.{AreTreesOf}
use Rattle.plan_tree.specs.Schedules.{IsScheduleFor, StopsTiled, tiling_of}
use Rattle.plan_certificate.specs.KeptLine.{KeptLine}
use Rattle.plan_search.specs.declared.plans.Planned.{Planned}
use Rattle.plan_search.specs.Planned.{IsCauseOfKept, IsPlanned}
use Rattle.plan_search.specs.Planning.{IsCauseOf, IsSearched, covers_in, line_of}
use Rattle.plan_search.specs.Found.{IsKeptLine}
use Rattle.plan_search.specs.steps.Plans.{IsKeptPlan, IsPlanOver, IsTiledPlan}

-- at what the trees of a schedule's tiles visit, the values of the rows of the first band have 64 bits
abbrev pub RowsFitAlong : Type 0
RowsFitAlong = (program : Program) (params : List ℤ) (marked : List ℕ) (size : ℕ) (s : Scheduled)
    (run : IsScheduled s) (ts : Trees) → IsScheduleFor program marked s
    → AreTreesOf program marked (tiling_of program size run.blocks) ts
    → HasParameters program params → (x : Instance) → In x (visits ts params)
    → All (λ r. FitsSigned w64 (value_of r.form x.turns))
    (items_at (statements_from run.blocks 0 (length (model_of program).statements)) x.number).band

-- so the tiles of a schedule can be told
tiled_fits : RowsFitAlong → (tile : ℕ) (marked : List ℕ) (program : Program) (s : Scheduled) (run : IsScheduled s)
    (ts : Trees) → 1 ≤ tile → IsScheduleFor program marked s
    → AreTreesOf program marked (tiling_of program tile run.blocks) ts
    → (params : List ℤ) → HasParameters program params → CanTile (tiling_of program tile run.blocks) (visits ts params)
tiled_fits fit tile marked program s run ts low own carried params has = record {
  size = low;
  rows = fit program params marked tile s run ts own carried has;
}

-- the plan of a schedule's tiles
pub tiled_is_plan : RowsFitAlong → (tile budget : ℕ) (report : Bool) (deps : List Dependence) (marked : List ℕ)
    (program : Program) (s : Scheduled) (run : IsScheduled s) (ts : Trees) (t : Tiling) (p : Planned) → 1 ≤ tile
    → IsScheduleFor program marked s → IsSearched budget deps (model_of program) run.blocks
    → AreTreesOf program marked (tiling_of program tile run.blocks) ts
    → t ≡ schedule_tiling tile (length s.model.statements) run.blocks
    → IsTiledPlan report s ts t p → IsPlanOver tile budget report deps marked program p
tiled_is_plan fit tile budget report deps marked program s run ts t p low own found carried tiles made =
    let plan = tiling_of program tile run.blocks in
    let is : tiling_in p.tiling ≡ plan = made.is ∙ tiles
    ∙ ap (λ (m : KernelModel). schedule_tiling tile (length m.statements) run.blocks) own.model in
    let carries = subst (λ t. AreTreesOf program marked plan t) (sym made.trees) carried in
    record {
      planned = inl (record {
        blocks = run.blocks;
        found = found;
        is = is;
        carried = subst (λ t. AreTreesOf program marked t (trees_in p.tree)) (sym is) carries;
        told = made.told run;
      });
      fits = λ params has. subst (λ t. CanTile t (visits (trees_in p.tree) params)) (sym is)
          (tiled_fits fit tile marked program s run (trees_in p.tree) low own carries params has);
    }

-- a kept order is one tile
kept_fits : (plan : Tiling) (xs : List Instance) → plan ≡ kept → CanTile plan xs
kept_fits plan xs is = subst (λ t. CanTile t xs) (sym is) (record { size = tt; rows = λ x i. tt })

-- the kept order, with the line of a cause
kept_is_plan : (tile budget : ℕ) (report : Bool) (deps : List Dependence) (marked : List ℕ) (program : Program)
    (line : Option KeptLine) (p : Planned) → (made : IsKeptPlan program line p)
    → IsCauseOfKept tile budget deps (model_of program) made.told.0
    → IsPlanOver tile budget report deps marked program p
kept_is_plan tile budget report deps marked program line p made cause = record {
  planned = inr (record {
    why = made.told.0;
    cause = cause;
    is = made.is;
    own = made.own;
    carried = made.carried;
    line = made.told.2;
  });
  fits = λ params has. kept_fits (tiling_in p.tiling) (visits (trees_in p.tree) params) made.is;
}

-- where the scan of the schedule's sets stops
pub stopped_is_plan : (tile budget : ℕ) (report : Bool) (deps : List Dependence) (marked : List ℕ) (program : Program)
    (s : Scheduled) (run : IsScheduled s) (stop : FmStop) (line : Option KeptLine) (p : Planned)
    → IsScheduleFor program marked s → IsSearched budget deps (model_of program) run.blocks
    → StopsTiled s.model tile run.blocks stop → line ≡ line_of (stuck.Elimination stop) → IsKeptPlan program line p
    → IsPlanOver tile budget report deps marked program p
stopped_is_plan tile budget report deps marked program s run stop line p own found stops same made =
    kept_is_plan tile budget report deps marked program line p made (inr (
      run.blocks,
      stop,
      found,
      subst (λ m. StopsTiled m tile run.blocks stop) own.model stops,
      sym same ∙ made.told.1,
    ))

-- where the search stops
pub unscheduled_is_plan : (tile budget : ℕ) (report : Bool) (deps : List Dependence) (marked : List ℕ)
    (program : Program) (model : KernelModel) (line : Option KeptLine) (p : Planned) → model ≡ model_of program
    → IsKeptLine budget deps model line → IsKeptPlan program line p
    → IsPlanOver tile budget report deps marked program p
unscheduled_is_plan tile budget report deps marked program model line p own cause made =
    kept_is_plan tile budget report deps marked program line p made
    (inl (subst (λ m. IsCauseOf budget deps m made.told.0) own (cause made.told.0 made.told.1)))

-- over the covers it is a plan of the program
pub plan_of_covers : (tile budget : ℕ) (report : Bool) (deps : List Dependence) (marked : List ℕ) (program : Program)
    (p : Planned) → deps ≡ covers_in budget marked program → IsPlanOver tile budget report deps marked program p
    → IsPlanned tile budget report marked program p
plan_of_covers tile budget report deps marked program p covers made =
    let over = subst (λ ds. IsPlanOver tile budget report ds marked program p) covers made in
    record { planned = over.planned; fits = over.fits }
