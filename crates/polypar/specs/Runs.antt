-- What `run` and `gen` tell of a run: the arrays, or how many cells they have and their sum; and on lines why instances
-- have no copies of their own, where that was asked for, why the order is kept, if it is, and the report, where one is
-- asked for.
use Rattle.std.specs.Prelude.{◌≡◌, ℕ, ℤ, Bool, true, false, List, [], ◌++◌, Option, None, Some}
use Rattle.std.specs.Prelude.{if◌then◌else◌}
use Rattle.scop_syntax.specs.Execution.{exec}
use Rattle.scop_syntax.specs.Tree.{Program}
use Rattle.scop_syntax.specs.Walk.{walk_of}
use Rattle.loop_tree.specs.Plans.{walked}
use Rattle.loop_tree.specs.Tiling.{Tiling}
use Rattle.loop_tree.specs.Tree.{Trees}
use Rattle.plan_search.specs.Counting.{HasTiles, HasWaves}
use Rattle.tile_runs.specs.Counting.{IsReleaseOf}
use Rattle.kernel_gen.specs.Cases.{contents, params, program}
use Rattle.kernel_gen.specs.Summary.{summary_text}
use Rattle.kernel_gen.specs.Totals.{cells_in, sum_of}
use Rattle.plan_search.specs.UnexpandedText.{unexpanded_text}
use Rattle.plan_search.specs.UnexpandedLine.{UnexpandedLine}
use Rattle.plan_search.specs.TilesText.{edges_text, tiles_text, waves_edges_text, waves_reduce_text}
use Rattle.command_line.specs.declared.command.GeneratedKernel.{GeneratedKernel}
use Rattle.command_line.specs.declared.command.RunOptions.{RunOptions}
use Rattle.command_line.specs.declared.command.Sync.{Sync}
use Rattle.command_line.specs.declared.command.Sync.TheVariants.{Tiles, Waves}
use Rattle.polypar.specs.Case.{final_text}
use Rattle.polypar.specs.Expanding.{GoesBy, is_unmarked}
use Rattle.polypar.specs.Told.{Told}

-- the first line where each instance was to have a copy of its own: why it has none
abbrev pub unexpanded_line : Option UnexpandedLine → List ℕ
unexpanded_line None = []
unexpanded_line (Some told) = unexpanded_text told

-- tiles begin when those that they wait for have released them: where it is asked for, and no array is marked
abbrev pub are_released : Sync → Bool → Bool
are_released Waves unmarked = false
are_released Tiles unmarked = unmarked

-- the next line where that is asked for: that tiles begin by waves, where an array is marked, or there are too many
-- pairs of tiles to count
abbrev pub release_line : Sync → Bool → Option ℕ → List ℕ
release_line Waves unmarked edges = []
release_line Tiles false edges = waves_reduce_text
release_line Tiles true None = waves_edges_text
release_line Tiles true (Some n) = []

-- the last line of a report: how many pairs of tiles there are, where they were counted
abbrev pub edges_line : Option ℕ → List ℕ
edges_line None = []
edges_line (Some n) = edges_text n

-- how a run of the program goes: its plan, whether each instance has a copy of its own, how many tiles of the plan
-- hold a walked instance, how many waves such tiles, where tiles begin when those that they wait for have released
-- them, how many pairs of tiles there are of which the second waits for the first, and the lines that tell of it: why
-- there are no copies, and that tiles begin by waves, where it was asked for otherwise; why the order is kept, if it
-- is; where a report is asked for, else the schedule, and then these numbers
pub record IsPlanTold (options : RunOptions) (program : Program) (params : List ℤ) (tiles waves : ℕ)
    (lines : List ℕ) : Type 0 where
  pub plan : Tiling
  pub trees : Trees
  pub front : List ℕ
  pub unexpanded : Option UnexpandedLine
  pub expanded : Bool
  pub goes : GoesBy options program params unexpanded expanded plan front trees
  pub has_tiles : HasTiles plan (walked program params) tiles
  pub has_waves : HasWaves plan (walked program params) waves
  pub edges : Option ℕ
  pub has_edges : IsReleaseOf (are_released options.sync (is_unmarked options program)) expanded plan
      (walk_of program params) edges
  pub told : lines ≡ unexpanded_line unexpanded ++ (release_line options.sync (is_unmarked options program) edges
      ++ (front ++ (if options.report then tiles_text tiles waves options.workers ++ edges_line edges else [])))

-- the lines of `run`
abbrev pub AreRunLines : RunOptions → Program → List ℤ → List ℕ → Type 0
AreRunLines options program params lines =
    (tiles : ℕ) × (waves : ℕ) × IsPlanTold options program params tiles waves lines

-- of `run`: the text of the arrays that the program's own sequential execution leaves, and its lines
pub record IsRunText (options : RunOptions) (program : Program) (params : List ℤ)
    (contents : List (List ℕ)) (told : Told) : Type 0 where
  pub text : told.text ≡ final_text program params contents
  pub lines : AreRunLines options program params told.lines

-- what the generated kernel's own sequential execution leaves in its arrays
abbrev pub left_by : GeneratedKernel → List (List ℕ)
left_by g = exec (program g.kind g.seed) (params g.kind g.size) (contents g.kind g.seed g.size)

-- of `gen`, whose tiles begin by waves, which makes no copies, marks no array and makes no report: how many tiles and
-- waves the plan has, how many cells the arrays have and their sum in the end
pub record IsSummaryText (g : GeneratedKernel) (options : RunOptions) (told : Told) : Type 0 where
  pub tiles : ℕ
  pub waves : ℕ
  pub planned : IsPlanTold (record options { report = false; expand = false; sync = Waves; reduce = false })
      (program g.kind g.seed) (params g.kind g.size) tiles waves told.lines
  pub text : told.text ≡ summary_text g.kind g.seed g.size tiles waves (cells_in (left_by g)) (sum_of (left_by g))
