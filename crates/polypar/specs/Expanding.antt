-- Runs in which each instance has a copy of its own cell: what sets an expansion aside that is asked for, and how a run
-- is planned.
use Rattle.std.specs.Prelude.{◌≡◌, ◌⊎◌, ℕ, ◌<◌, ◌≤◌, ◌==◌, ℤ, Bool, true, false, List, [], ◌∷◌, length}
use Rattle.std.specs.Prelude.{Option, None, Some, if◌then◌else◌}
use Rattle.pip_solver.specs.declared.stop.Stop.TheVariants as solver
use Rattle.scop_syntax.specs.Reductions.{marks}
use Rattle.scop_syntax.specs.Tree.{Program}
use Rattle.scop_syntax.specs.Walk.{walk_of}
use Rattle.iteration_domains.specs.Model.{model_of}
use Rattle.plan_search.specs.SourceStop.{SourceStop}
use Rattle.plan_search.specs.SourceStop.TheVariants as stop
use Rattle.loop_tree.specs.Tiling.{Tiling}
use Rattle.loop_tree.specs.Tree.{Trees}
use Rattle.plan_search.specs.UnexpandedLine.{UnexpandedLine}
use Rattle.plan_search.specs.UnexpandedLine.TheVariants as line
use Rattle.command_line.specs.declared.command.RunOptions.{RunOptions}
use Rattle.plan_search.specs.Planned.{AreExpanded, ArePlanned, AreSourcesTold, is_tiled}
use Rattle.plan_search.specs.ReadSources.{AreSources, reads_of}
use Rattle.plan_search.specs.ReadSource.{ReadSource}
use Rattle.plan_search.specs.ReadSource.TheVariants as source
use Rattle.plan_search.specs.Way.TheVariants.{Later}

-- the arrays that are marked: where sums may be made in any order, those that the program's statements only add to
abbrev pub marks_by : RunOptions → Program → List ℕ
marks_by options program = if options.reduce then marks program else []

-- none is
abbrev pub is_unmarked : RunOptions → Program → Bool
is_unmarked options program = length (marks_by options program) == 0

-- the first of the sources that is not told, where there is one
abbrev pub first_unresolved : List ReadSource → Option SourceStop
first_unresolved [] = None
first_unresolved (source.Resolved quast ∷ more) = first_unresolved more
first_unresolved (source.Unresolved why ∷ more) = Some why

-- the line of such a stop; none for want of memory (it never comes to that: no read is unresolved for want of memory)
abbrev pub line_of_stop : SourceStop → Option UnexpandedLine
line_of_stop (stop.Solver (solver.Wide posed moves)) = Some line.Wide
line_of_stop (stop.Solver (solver.Spent posed moves)) = Some (line.Spent moves)
line_of_stop (stop.Solver solver.NoMemory) = None
line_of_stop (stop.Join nodes) = Some (line.Nodes nodes)

-- the first of the program's reads, by statement and read, whose source is not told within the budget stops as the line
-- tells
pub record StopsFirst (budget : ℕ) (program : Program) (told : UnexpandedLine) : Type 0 where
  pub sources : List ReadSource
  pub run : AreSources Later (model_of program) budget (reads_of (model_of program)) sources
  pub why : SourceStop
  pub first : first_unresolved sources ≡ Some why
  pub line : line_of_stop why ≡ Some told

-- the source of each of the program's reads is told within the budget
abbrev pub AreAllTold : ℕ → Program → Type 0
AreAllTold budget program = (sources : List ReadSource) × AreSourcesTold budget program sources

-- an expansion is set aside for what the line tells: an array is added to in any order; else the first read, by
-- statement and read, whose source is not told within the budget, stops so; else all are told, and the walk has more
-- than 2^22 places
abbrev pub IsSetAside : RunOptions → Program → List ℤ → UnexpandedLine → Type 0
IsSetAside options program params told =
    ((is_unmarked options program ≡ false) × (told ≡ line.Reduce))
    ⊎ ((is_unmarked options program ≡ true)
    × (StopsFirst options.budget program told
    ⊎ (AreAllTold options.budget program × (4194304 < length (walk_of program params)) × (told ≡ line.Copies))))

-- a run that is expanded: nothing is added to in any order, all sources are told, and there are at most 2^22 places
pub record CanExpand (options : RunOptions) (program : Program) (params : List ℤ) : Type 0 where
  pub unmarked : is_unmarked options program ≡ true
  pub told : AreAllTold options.budget program
  pub few : length (walk_of program params) ≤ 4194304

-- a plan without copies: conflicts on marked arrays are not kept in order
abbrev pub GoesAsIs : RunOptions → Program → Bool → Tiling → List ℕ → Trees → Type 0
GoesAsIs options program expanded plan front trees =
    (expanded ≡ false)
    × ArePlanned options.tile options.budget options.report (marks_by options program) program plan front trees

-- how a run is planned, where it is asked for or not that each instance have a copy of its own
abbrev pub GoesIf : Bool → RunOptions → Program → List ℤ → Option UnexpandedLine → Bool → Tiling → List ℕ → Trees
    → Type 0
GoesIf false options program params told expanded plan front trees =
    (told ≡ None) × GoesAsIs options program expanded plan front trees
GoesIf true options program params (Some told) expanded plan front trees =
    IsSetAside options program params told × GoesAsIs options program expanded plan front trees
GoesIf true options program params None expanded plan front trees =
    CanExpand options program params × (expanded ≡ is_tiled plan)
    × AreExpanded options.tile options.budget options.report program plan front trees

-- how a run is planned, and whether each instance has a copy of its own: not where that is not asked for, or set aside
-- for what a line tells; there conflicts on marked arrays are not kept in order
abbrev pub GoesBy : RunOptions → Program → List ℤ → Option UnexpandedLine → Bool → Tiling → List ℕ → Trees → Type 0
GoesBy options program params told expanded plan front trees =
    GoesIf options.expand options program params told expanded plan front trees
