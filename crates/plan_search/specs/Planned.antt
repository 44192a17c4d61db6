-- The plan of a kernel as code uses it: the loops of its tiled schedule, or its own loops and why their order is kept.
use Rattle.std.specs.Prelude.{◌≡◌, ◌⊎◌, ℕ, ℤ, All, Bool, true, false, if◌then◌else◌, List, [], Some, map}
use Rattle.scop_syntax.specs.Limits.{HasParameters}
use Rattle.scop_syntax.specs.Tree.{Program}
use Rattle.iteration_domains.specs.Dependence.{Dependence}
use Rattle.iteration_domains.specs.Model.{KernelModel, model_of}
use Rattle.dataflow.specs.Flow.{IsResolved, flow_of, tree_in}
use Rattle.dataflow.specs.ReadSources.{AreSources, reads_of}
use Rattle.dataflow.specs.Way.TheVariants.{Later}
use Rattle.dataflow.specs.declared.source.ReadSource.{ReadSource}
use Rattle.plan_tree.specs.FmStop.{FmStop}
use Rattle.pluto_search.specs.Stuck.TheVariants as stuck
use Rattle.pluto_search.specs.Items.{Block}
use Rattle.loop_tree.specs.Source.{source_of}
use Rattle.loop_tree.specs.Tiling.{Tiling, kept, tiled}
use Rattle.loop_tree.specs.TilingView.{tiling_of as tiling_in}
use Rattle.loop_tree.specs.Tree.{Trees}
use Rattle.loop_tree.specs.View.{trees_in}
use Rattle.loop_tree.specs.Walk.{visits}
use Rattle.plan_tree.specs.Trees.{AreFlowTreesOf, AreTreesOf}
use Rattle.plan_tree.specs.Schedules.{StopsTiled, tiling_of}
use Rattle.tile_list.specs.Tiles.{CanTile}
use Rattle.plan_certificate.specs.KeptLine.{KeptLine}
use Rattle.plan_certificate.specs.KeptText.{kept_text}
use Rattle.plan_certificate.specs.ScheduleText.{schedule_text}
use Rattle.plan_search.specs.declared.plans.Planned.{Planned}
use Rattle.plan_search.specs.Planning.{IsCauseOf, IsSearched, covers_in, line_of}

-- why the order is kept: a cause of the search, or a stop of the scan of the sets of the schedule that is found
abbrev pub IsCauseOfKept : ℕ → ℕ → List Dependence → KernelModel → KeptLine → Type 0
IsCauseOfKept tile budget deps model told =
    IsCauseOf budget deps model told
    ⊎ ((blocks : List Block) × (stop : FmStop) × IsSearched budget deps model blocks
    × StopsTiled model tile blocks stop × (line_of (stuck.Elimination stop) ≡ Some told))

-- the text of a schedule where a report is asked for
abbrev pub report_of : Bool → List Block → List ℕ
report_of report blocks = if report then schedule_text blocks else []

-- loop trees of the tiles of the schedule that is found over these dependences, whose text is told where a report is
-- asked for; they carry out the plan
pub record AreTiled (tile budget : ℕ) (report : Bool) (deps : List Dependence) (Carries : Tiling → Trees → Type 0)
    (program : Program) (plan : Tiling) (lines : List ℕ) (ts : Trees) : Type 0 where
  pub blocks : List Block
  pub found : IsSearched budget deps (model_of program) blocks
  pub is : plan ≡ tiling_of program tile blocks
  pub carried : Carries plan ts
  pub told : lines ≡ report_of report blocks

-- the source's own loops, whose order is kept for a cause that the line tells
pub record AreKept (tile budget : ℕ) (deps : List Dependence) (program : Program) (plan : Tiling) (lines : List ℕ)
    (ts : Trees) : Type 0 where
  pub why : KeptLine
  pub cause : IsCauseOfKept tile budget deps (model_of program) why
  pub is : plan ≡ kept
  pub own : ts ≡ source_of program
  pub carried : AreTreesOf program [] plan ts
  pub line : lines ≡ kept_text why

-- of the arrays that are marked, those that a run by a plan adds to in any order: none where the order is kept
abbrev pub added_in : Tiling → List ℕ → List ℕ
added_in kept marked = []
added_in (tiled size statements) marked = marked

-- whether a plan is of tiles
abbrev pub is_tiled : Tiling → Bool
is_tiled kept = false
is_tiled (tiled size statements) = true

-- loop trees that for all parameters in 0..=65536 carry out the plan, where some arrays are marked: tiled, or kept
abbrev pub ArePlanned : ℕ → ℕ → Bool → List ℕ → Program → Tiling → List ℕ → Trees → Type 0
ArePlanned tile budget report marked program plan lines ts =
    AreTiled tile budget report (covers_in budget marked program) (AreTreesOf program marked) program plan lines ts
    ⊎ AreKept tile budget (covers_in budget marked program) program plan lines ts

-- the sources of the program's reads, each told within the budget
pub record AreSourcesTold (budget : ℕ) (program : Program) (sources : List ReadSource) : Type 0 where
  pub run : AreSources Later (model_of program) budget (reads_of (model_of program)) sources
  pub resolved : All IsResolved sources

-- the reads of a program with their last writers alone
abbrev pub flow_in : Program → List ReadSource → List Dependence
flow_in program sources = flow_of (model_of program) (map tree_in sources)

-- loop trees for runs in which each instance has a copy of its own: of the tiles of the schedule that is found over the
-- reads with their last writers alone; or the source's own, kept
abbrev pub AreExpanded : ℕ → ℕ → Bool → Program → Tiling → List ℕ → Trees → Type 0
AreExpanded tile budget report program plan lines ts =
    (sources : List ReadSource) × AreSourcesTold budget program sources
    × (AreTiled tile budget report (flow_in program sources) (AreFlowTreesOf program) program plan lines ts
    ⊎ AreKept tile budget (flow_in program sources) program plan lines ts)

-- a plan with its trees and lines, whose tiles can be told for all parameters in 0..=65536
pub record IsPlanned (tile budget : ℕ) (report : Bool) (marked : List ℕ) (program : Program) (p : Planned)
    : Type 0 where
  pub planned : ArePlanned tile budget report marked program (tiling_in p.tiling) p.lines.items (trees_in p.tree)
  pub fits : (params : List ℤ) → HasParameters program params
      → CanTile (tiling_in p.tiling) (visits (trees_in p.tree) params)

-- the same of a plan for runs in which each instance has a copy of its own
pub record IsExpandedPlan (tile budget : ℕ) (report : Bool) (program : Program) (p : Planned) : Type 0 where
  pub planned : AreExpanded tile budget report program (tiling_in p.tiling) p.lines.items (trees_in p.tree)
  pub fits : (params : List ℤ) → HasParameters program params
      → CanTile (tiling_in p.tiling) (visits (trees_in p.tree) params)
