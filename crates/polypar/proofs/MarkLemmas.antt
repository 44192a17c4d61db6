-- A run with marked arrays: what it asks of its plan and of its marks, and what is told of it.
use Rattle.scop_syntax.proofs.Common.{◌≡◌, ◌∙◌, sym, ap, subst, arith, ℕ, suc, ℤ, Bool, true, false, List, [], ◌∷◌}
use Rattle.scop_syntax.proofs.Common.{◌++◌, ◌==◌, Option, length, if◌then◌else◌, AreMarked, Program, Visit, walk_of}
use Rattle.scop_syntax.specs.Reductions.{marks}
use Rattle.scop_syntax.proofs.ReducedArrays.{none_marked}
use Rattle.loop_tree.specs.Plans.{walked}
use Rattle.loop_tree.specs.Tiling.{Tiling, kept, tiled}
use Rattle.loop_tree.specs.Tree.{Trees}
use Rattle.command_line.specs.declared.command.RunOptions.{RunOptions}
use Rattle.command_line.specs.declared.command.Sync.{Sync}
use Rattle.command_line.specs.declared.command.Sync.TheVariants.{Tiles, Waves}
use Rattle.plan_search.specs.Counting.{HasTiles, HasWaves}
use Rattle.plan_search.specs.UnexpandedLine.{UnexpandedLine}
use Rattle.plan_search.specs.Planned.{added_in}
use Rattle.plan_search.specs.TilesText.{tiles_text}
use Rattle.tile_runs.specs.Counting.{IsReleaseOf}
use Rattle.polypar.specs.Expanding.{GoesBy, is_unmarked, marks_by}
use Rattle.polypar.specs.Runs.{IsPlanTold, are_released, edges_line, release_line, unexpanded_line}

-- those that a run adds to are only added to, where all that are marked are
added_marked : (plan : Tiling) (marked : List ℕ) (visits : List Visit) → AreMarked marked visits
    → AreMarked (added_in plan marked) visits
added_marked kept marked visits are = none_marked visits
added_marked (tiled size statements) marked visits are = are

-- the law of a program's marks
abbrev pub MarksAreAdded : Type 0
MarksAreAdded = (program : Program) (params : List ℤ) → AreMarked (marks program) (walk_of program params)

-- so are those of a run by these options
pub marks_added : MarksAreAdded → (options : RunOptions) (program : Program) (params : List ℤ) (plan : Tiling)
    (marked added : List ℕ) → marked ≡ marks_by options program → added ≡ added_in plan marked
    → AreMarked added (walk_of program params)
marks_added law options program params plan marked added is same =
    let visits = walk_of program params in
    subst (λ (ms : List ℕ). AreMarked ms visits) (sym same)
    (added_marked plan marked visits (subst (λ (ms : List ℕ). AreMarked ms visits) (sym is) (asked options.reduce)))
  where
    asked : (b : Bool) → AreMarked (if b then marks program else []) (walk_of program params)
    asked true = law program params
    asked false = none_marked (walk_of program params)

-- where tiles are released one by one no array is marked, so nothing is added to
none_by : (sync : Sync) (plan : Tiling) (marked added : List ℕ) → added ≡ added_in plan marked
    → are_released sync (length marked == 0) ≡ true → added ≡ []
none_by Waves plan marked added same released = absurd cc
none_by Tiles kept [] added same released = same
none_by Tiles (tiled size statements) [] added same released = same
none_by Tiles plan (m ∷ ms) added same released =
    let many : (suc (length ms) == 0) ≡ false = grind arith in absurd cc

pub none_added : (sync : Sync) (unmarked released : Bool) (plan : Tiling) (marked added : List ℕ)
    → unmarked ≡ (length marked == 0) → released ≡ are_released sync unmarked → added ≡ added_in plan marked
    → released ≡ true → added ≡ []
none_added sync unmarked released plan marked added empty asked same due =
    none_by sync plan marked added same (ap (are_released sync) (sym empty) ∙ (sym asked ∙ due))

-- what is told of a run, by its marks
pub told_by : (options : RunOptions) (program : Program) (params : List ℤ) (marked : List ℕ)
    (unmarked released : Bool) (unexpanded : Option UnexpandedLine) (expanded : Bool) (plan : Tiling) (trees : Trees)
    (front : List ℕ) (tiles waves : ℕ) (edges : Option ℕ) (lines : List ℕ) → marked ≡ marks_by options program
    → unmarked ≡ (length marked == 0) → released ≡ are_released options.sync unmarked
    → GoesBy options program params unexpanded expanded plan front trees
    → HasTiles plan (walked program params) tiles → HasWaves plan (walked program params) waves
    → IsReleaseOf released expanded plan (walk_of program params) edges
    → lines ≡ unexpanded_line unexpanded ++ (release_line options.sync unmarked edges
    ++ (front ++ (if options.report then tiles_text tiles waves options.workers ++ edges_line edges else [])))
    → IsPlanTold options program params tiles waves lines
told_by options program params marked unmarked released unexpanded expanded plan trees front tiles waves edges lines is
    empty asked goes has_tiles has_waves has_edges told =
    let bare : unmarked ≡ is_unmarked options program = empty ∙ ap (λ (ms : List ℕ). length ms == 0) is in
    record {
      plan = plan;
      trees = trees;
      front = front;
      unexpanded = unexpanded;
      expanded = expanded;
      goes = goes;
      has_tiles = has_tiles;
      has_waves = has_waves;
      edges = edges;
      has_edges = subst (λ (b : Bool). IsReleaseOf b expanded plan (walk_of program params) edges)
          (asked ∙ ap (are_released options.sync) bare) has_edges;
      told = told ∙ ap (λ (b : Bool). unexpanded_line unexpanded ++ (release_line options.sync b edges
          ++ (front ++ (if options.report then tiles_text tiles waves options.workers ++ edges_line edges else []))))
          bare;
    }
