-- How the code settles by which plan a run goes, and whether each instance has a copy of its own.
use Rattle.std.specs.Prelude.{◌≡◌, ℤ, true, false, List, [], All, MatchOption, Option, None, Some, is_some, ⊤}
use Rattle.scop_syntax.specs.Limits.{HasParameters}
use Rattle.scop_syntax.specs.Tree.{Program}
use Rattle.plan_search.specs.Flow.{IsResolved}
use Rattle.plan_search.specs.SourceStop.{SourceStop}
use Rattle.tile_runs.specs.Expansions.{AreSourcesOf}
use Rattle.loop_tree.specs.TilingView.{tiling_of}
use Rattle.loop_tree.specs.View.{trees_in}
use Rattle.loop_tree.specs.Walk.{visits}
use Rattle.plan_search.specs.UnexpandedLine.{UnexpandedLine}
use Rattle.command_line.specs.declared.command.RunOptions.{RunOptions}
use Rattle.plan_search.specs.Planned.{AreSourcesTold, added_in}
use Rattle.plan_search.specs.ReadSource.{ReadSource}
use Rattle.plan_search.specs.Trees.{AreFlowTreesOf, AreTreesOf}
use Rattle.plan_search.specs.Tiles.{CanTile}
use Rattle.polypar.specs.Expanding.{GoesBy, IsSetAside, first_unresolved, line_of_stop, marks_by}
use Rattle.polypar.specs.declared.expansion.Course.{Course}
use Rattle.polypar.specs.declared.expansion.Expansion.{Expansion}
use Rattle.polypar.specs.declared.expansion.Expansion.TheVariants as expansion

-- the line is that of the first source that is not told; without one all are
abbrev pub IsFirstLine : List ReadSource → Option UnexpandedLine → Type 0
IsFirstLine sources None = All IsResolved sources
IsFirstLine sources (Some told) =
    (why : SourceStop) × (first_unresolved sources ≡ Some why) × (line_of_stop why ≡ Some told)

-- what comes of an expansion that is asked for: all sources and their places, and no array is marked; or a line tells
-- why it is set aside
abbrev pub IsExpansion : RunOptions → Program → List ℤ → Expansion → Type 0
IsExpansion options program params (expansion.Told told sources) =
    AreSourcesTold options.budget program told.items × AreSourcesOf program params sources
    × (marks_by options program ≡ [])
IsExpansion options program params (expansion.Aside told) = IsSetAside options program params told

-- why a run has no copies: they are not asked for, or set aside for what a line tells
abbrev pub HasNoCopies : RunOptions → Program → List ℤ → Option UnexpandedLine → Type 0
HasNoCopies options program params None = options.expand ≡ false
HasNoCopies options program params (Some told) = (options.expand ≡ true) × IsSetAside options program params told

-- a run goes by a plan, and where it has sources each instance has a copy of its own
pub record IsCourse (options : RunOptions) (program : Program) (params : List ℤ) (c : Course) : Type 0 where
  pub goes : GoesBy options program params c.unexpanded (is_some c.sources) (tiling_of c.plan.tiling) c.plan.lines.items
      (trees_in c.plan.tree)
  pub trees : MatchOption c.sources
      (AreTreesOf program (added_in (tiling_of c.plan.tiling) (marks_by options program)) (tiling_of c.plan.tiling)
      (trees_in c.plan.tree))
      (λ s. AreFlowTreesOf program (tiling_of c.plan.tiling) (trees_in c.plan.tree))
  pub sources : MatchOption c.sources ⊤ (AreSourcesOf program params)
  pub unmarked : MatchOption c.sources ⊤ (λ s. marks_by options program ≡ [])
  pub fits : (params : List ℤ) → HasParameters program params
      → CanTile (tiling_of c.plan.tiling) (visits (trees_in c.plan.tree) params)
