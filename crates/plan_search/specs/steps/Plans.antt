-- A plan that is put together of its parts.
use Rattle.std.specs.Prelude.{◌≡◌, ◌⊎◌, ℕ, ℤ, Bool, List, [], Option}
use Rattle.scop_syntax.specs.Limits.{HasParameters}
use Rattle.scop_syntax.specs.Tree.{Program}
use Rattle.iteration_domains.specs.Dependence.{Dependence}
use Rattle.loop_tree.specs.Source.{source_of}
use Rattle.loop_tree.specs.Tiling.{Tiling, kept}
use Rattle.loop_tree.specs.TilingView.{tiling_of}
use Rattle.loop_tree.specs.Tree.{Trees}
use Rattle.loop_tree.specs.View.{trees_in}
use Rattle.loop_tree.specs.Walk.{visits}
use Rattle.pluto_search.specs.Schedule.{Scheduled, IsScheduled}
use Rattle.plan_tree.specs.Trees.{AreTreesOf}
use Rattle.tile_list.specs.Tiles.{CanTile}
use Rattle.plan_certificate.specs.KeptLine.{KeptLine}
use Rattle.plan_search.specs.declared.plans.Planned.{Planned}
use Rattle.plan_search.specs.Planned.{AreKept, AreTiled, report_of}
use Rattle.plan_search.specs.Planning.{IsLineText}

-- these trees, this tiling, and the schedule's text where a report is asked for
pub record IsTiledPlan (report : Bool) (s : Scheduled) (ts : Trees) (plan : Tiling) (p : Planned) : Type 0 where
  pub trees : trees_in p.tree ≡ ts
  pub is : tiling_of p.tiling ≡ plan
  pub told : (run : IsScheduled s) → p.lines.items ≡ report_of report run.blocks

-- the source's own loops, kept, and the line's text
pub record IsKeptPlan (program : Program) (line : Option KeptLine) (p : Planned) : Type 0 where
  pub told : IsLineText line p.lines.items
  pub is : tiling_of p.tiling ≡ kept
  pub own : trees_in p.tree ≡ source_of program
  pub carried : AreTreesOf program [] (tiling_of p.tiling) (trees_in p.tree)

-- the plan that a search over these dependences leads to, where some arrays are marked
pub record IsPlanOver (tile budget : ℕ) (report : Bool) (deps : List Dependence) (marked : List ℕ) (program : Program)
    (p : Planned) : Type 0 where
  pub planned : AreTiled tile budget report deps (AreTreesOf program marked) program (tiling_of p.tiling)
      p.lines.items (trees_in p.tree)
      ⊎ AreKept tile budget deps program (tiling_of p.tiling) p.lines.items (trees_in p.tree)
  pub fits : (params : List ℤ) → HasParameters program params
      → CanTile (tiling_of p.tiling) (visits (trees_in p.tree) params)
