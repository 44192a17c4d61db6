-- A plan over the reads with their last writers is one for runs in which each instance has a copy of its own.
use Rattle.scop_syntax.proofs.Common.{◌≡◌, ◌⊎◌, sym, subst, inl, inr, refl, ℕ, ◌≤◌, ◌<◌, ℤ, Bool, true, false, List, []}
use Rattle.scop_syntax.proofs.Common.{All, map, IsKernel, HasParameters, In, Program}
use Rattle.iteration_domains.specs.Dependence.{Dependence}
use Rattle.iteration_domains.specs.Held.{HoldSources}
use Rattle.iteration_domains.specs.Model.{KernelModel, model_of}
use Rattle.dataflow.specs.Covering.{LiesBetween}
use Rattle.dataflow.specs.Flow.{AreLastSources, IsResolved, flow_of, tree_in}
use Rattle.dataflow.specs.Posed.{IsOfKernel}
use Rattle.dataflow.specs.declared.source.ReadSource.{ReadSource}
use Rattle.loop_tree.specs.Tiling.{Tiling, kept}
use Rattle.loop_tree.specs.TilingView.{tiling_of as tiling_in}
use Rattle.loop_tree.specs.Tree.{Trees}
use Rattle.loop_tree.specs.View.{trees_in}
use Rattle.pluto_search.specs.Items.{Block}
use Rattle.pluto_search.specs.Schedule.{IsScheduled, Scheduled, bands_from, items_of, marks_of, scheduled}
use Rattle.plan_tree.specs.Trees.{AreFlowTreesOf, AreTreesOf}
use Rattle.plan_tree.specs.Schedules.{IsFlowScheduleFor, IsScheduleFor, arrays_of, tiling_of}
use Rattle.plan_search.specs.declared.plans.Planned.{Planned}
use Rattle.plan_search.specs.Found.{HoldFor, LieBetween}
use Rattle.plan_search.specs.Planned.{AreExpanded, AreKept, AreSourcesTold, AreTiled, IsExpandedPlan, flow_in}
use Rattle.plan_search.specs.Planned.{is_tiled}
use Rattle.plan_search.specs.steps.Plans.{IsPlanOver}
use Rattle.plan_search.proofs.BetweenLemmas.{are_sized}

-- what is known of dependences that hold reads with their last writers, and of a schedule over them
pub record FlowLaws : Type 0 where
  pub held : (program : Program) (params : List ℤ) (sources : List ReadSource) → HasParameters program params
      → AreLastSources (model_of program) sources → All IsResolved sources
      → HoldSources program params (flow_of (model_of program) (map tree_in sources))
  pub between : (model : KernelModel) (sources : List ReadSource) (d : Dependence) → IsOfKernel model
      → In d (flow_of model (map tree_in sources)) → LiesBetween model d
  pub schedule : (program : Program) (s : Scheduled) → IsFlowScheduleFor program s
      → IsScheduleFor program (arrays_of program) s
  pub trees : (program : Program) (marked : List ℕ) (size : ℕ) (s : Scheduled) (run : IsScheduled s) (ts : Trees)
      → 0 < size → IsFlowScheduleFor program s → AreTreesOf program marked (tiling_of program size run.blocks) ts
      → AreFlowTreesOf program (tiling_of program size run.blocks) ts

-- dependences between a program's statements that hold the reads of its walk with their last writers
pub record AreFlow (program : Program) (deps : List Dependence) : Type 0 where
  pub kernel : IsKernel program
  pub between : LieBetween (model_of program) deps
  pub sources : (params : List ℤ) → HasParameters program params → HoldSources program params deps

-- those of sources that are told are such
pub are_flow : FlowLaws → (budget : ℕ) (program : Program) (sources : List ReadSource) (deps : List Dependence)
    → IsKernel program → AreSourcesTold budget program sources → deps ≡ flow_in program sources
    → AreFlow program deps
are_flow laws budget program sources deps kernel told is =
    subst (AreFlow program) (sym is) (record {
      kernel = kernel;
      between = λ d i. laws.between (model_of program) sources d (program, kernel, refl) i;
      sources = λ params has. laws.held program params sources has (budget, told.run) told.resolved;
    })

-- the schedule of these blocks, as plain data
abbrev schedule_by : Program → List Dependence → List Block → Scheduled
schedule_by program deps blocks =
    scheduled (model_of program) deps (items_of blocks) (bands_from 0 blocks) (marks_of blocks)

flow_schedule : (program : Program) (deps : List Dependence) (blocks : List Block) → AreFlow program deps
    → IsFlowScheduleFor program (schedule_by program deps blocks)
flow_schedule program deps blocks are = record {
  kernel = are.kernel;
  model = refl;
  sized = are_sized (model_of program) deps are.between;
  sources = are.sources;
}

-- but for those on all arrays they hold the covers
pub flow_holds : FlowLaws → (program : Program) (deps : List Dependence) → AreFlow program deps
    → HoldFor program (arrays_of program) deps
flow_holds laws program deps are =
    (laws.schedule program (schedule_by program deps []) (flow_schedule program deps [] are)).covers

-- trees of the tiles of the schedule that is found over them are those of a flow plan
flow_tiled : FlowLaws → (tile budget : ℕ) (report : Bool) (deps : List Dependence) (marked : List ℕ)
    (program : Program) (plan : Tiling) (lines : List ℕ) (ts : Trees) → 1 ≤ tile → AreFlow program deps
    → AreTiled tile budget report deps (AreTreesOf program marked) program plan lines ts
    → AreTiled tile budget report deps (AreFlowTreesOf program) program plan lines ts
flow_tiled laws tile budget report deps marked program plan lines ts low are made =
    let run : IsScheduled (schedule_by program deps made.blocks) =
    record { blocks = made.blocks; run = made.found.0; items = refl; bands = refl; parallel = refl } in
    record {
      blocks = made.blocks;
      found = made.found;
      is = made.is;
      carried = subst (λ t. AreFlowTreesOf program t ts) (sym made.is)
          (laws.trees program marked tile (schedule_by program deps made.blocks) run ts low
          (flow_schedule program deps made.blocks are)
          (subst (λ t. AreTreesOf program marked t ts) made.is made.carried));
      told = made.told;
    }

-- a plan over the reads with their last writers alone, tiled or kept
abbrev IsOverFlow : ℕ → ℕ → Bool → Program → Planned → List Dependence → Type 0
IsOverFlow tile budget report program p deps =
    AreTiled tile budget report deps (AreFlowTreesOf program) program (tiling_in p.tiling) p.lines.items
    (trees_in p.tree)
    ⊎ AreKept tile budget deps program (tiling_in p.tiling) p.lines.items (trees_in p.tree)

-- so over sources that are told
pub plan_of_flow : FlowLaws → (tile budget : ℕ) (report : Bool) (deps : List Dependence) (marked : List ℕ)
    (program : Program) (sources : List ReadSource) (p : Planned) → 1 ≤ tile → AreSourcesTold budget program sources
    → deps ≡ flow_in program sources → AreFlow program deps → IsPlanOver tile budget report deps marked program p
    → IsExpandedPlan tile budget report program p
plan_of_flow laws tile budget report deps marked program sources p low told is are made = record {
  planned = (sources, told, subst (IsOverFlow tile budget report program p) is (by_kind made.planned));
  fits = made.fits;
}
  where
    by_kind : AreTiled tile budget report deps (AreTreesOf program marked) program (tiling_in p.tiling) p.lines.items
        (trees_in p.tree)
        ⊎ AreKept tile budget deps program (tiling_in p.tiling) p.lines.items (trees_in p.tree)
        → IsOverFlow tile budget report program p deps
    by_kind (inl tiles) =
        inl
        (flow_tiled laws tile budget report deps marked program (tiling_in p.tiling) p.lines.items (trees_in p.tree)
        low are tiles)
    by_kind (inr own) = inr own

-- tiled, its trees are those of a flow plan
pub flow_where_tiled : (tile budget : ℕ) (report : Bool) (program : Program) (plan : Tiling) (lines : List ℕ)
    (ts : Trees) → is_tiled plan ≡ true → AreExpanded tile budget report program plan lines ts
    → AreFlowTreesOf program plan ts
flow_where_tiled tile budget report program plan lines ts is (sources, told, inl tiles) = tiles.carried
flow_where_tiled tile budget report program plan lines ts is (sources, told, inr own) =
    let none : is_tiled kept ≡ true = subst (λ t. is_tiled t ≡ true) own.is is in absurd cc

-- else they are those of the kept order
pub kept_where_not : (tile budget : ℕ) (report : Bool) (program : Program) (plan : Tiling) (lines : List ℕ)
    (ts : Trees) → is_tiled plan ≡ false → AreExpanded tile budget report program plan lines ts
    → AreTreesOf program [] plan ts
kept_where_not tile budget report program plan lines ts is (sources, told, inl tiles) =
    let none : is_tiled (tiling_of program tile tiles.blocks) ≡ false = subst (λ t. is_tiled t ≡ false) tiles.is is in
    absurd cc
kept_where_not tile budget report program plan lines ts is (sources, told, inr own) = own.carried
