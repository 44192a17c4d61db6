-- What a search over a model's dependences finds, or why the order is kept; and what `schedule` prints of a kernel.
use Rattle.std.specs.Prelude.{◌≡◌, ◌⊎◌, ℕ, List, [], Option, Some, None}
use Rattle.scop_syntax.specs.Tree.{Program}
use Rattle.iteration_domains.specs.Dependence.{Dependence}
use Rattle.iteration_domains.specs.Model.{KernelModel, model_of}
use Rattle.dataflow.specs.Covering.{covers_of}
use Rattle.plan_tree.specs.FmStop.TheVariants as elimination
use Rattle.pluto_search.specs.Stop.TheVariants as solver
use Rattle.pluto_search.specs.Stuck.{Stuck}
use Rattle.pluto_search.specs.Stuck.TheVariants as stuck
use Rattle.pluto_search.specs.Items.{Block}
use Rattle.pluto_search.specs.Outcomes.{ends, IsSchedule}
use Rattle.pluto_search.specs.Schedule.{loops_in}
use Rattle.pluto_search.specs.Questions.{ComesAnswered}
use Rattle.pluto_search.specs.Searching.{Keeps}
use Rattle.pluto_search.specs.declared.kept.Kept.{Kept}
use Rattle.pluto_search.specs.declared.kept.Kept.TheVariants as kept
use Rattle.plan_certificate.specs.KeptLine.{KeptLine}
use Rattle.plan_certificate.specs.KeptLine.TheVariants as line
use Rattle.plan_certificate.specs.KeptText.{kept_text}
use Rattle.plan_certificate.specs.ScheduleText.{schedule_text}

-- the line of a question or an elimination that stops; none for want of memory
abbrev pub line_of : Stuck → Option KeptLine
line_of (stuck.Solver (solver.Wide posed moves)) = Some line.Wide
line_of (stuck.Solver (solver.Spent posed moves)) = Some (line.Spent moves)
line_of (stuck.Solver solver.NoMemory) = None
line_of (stuck.Elimination (elimination.Wide wide)) = Some line.Wide
line_of (stuck.Elimination (elimination.Crowded pairs)) = Some (line.Crowded pairs)
line_of (stuck.Elimination (elimination.Large number)) = Some line.Large
line_of (stuck.Elimination elimination.NoMemory) = None
line_of stuck.NoMemory = None

-- the line of what keeps an order; none for want of memory
abbrev pub line_of_kept : Kept → Option KeptLine
line_of_kept (kept.Stuck stop) = line_of stop
line_of_kept (kept.NoRow posed) = Some line.NoRow
line_of_kept (kept.NoOrder component) = Some line.NoOrder
line_of_kept kept.NoMemory = None
line_of_kept (kept.Large row) = Some line.Large

-- the text is that of a line that is told
abbrev pub IsLineText : Option KeptLine → List ℕ → Type 0
IsLineText told text = (some : KeptLine) × (told ≡ Some some) × (text ≡ kept_text some)

-- the blocks are the schedule of the determined run over these dependences of the model
abbrev pub IsScheduleOf : List Dependence → KernelModel → List Block → Type 0
IsScheduleOf deps model blocks = IsSchedule model.parameters (loops_in model) deps blocks

-- it is what a search with this budget finds: all questions that the run poses are answered within it
abbrev pub IsSearched : ℕ → List Dependence → KernelModel → List Block → Type 0
IsSearched budget deps model blocks =
    IsScheduleOf deps model blocks × ComesAnswered model.parameters (loops_in model) budget deps (ends blocks)

-- what a kept line tells holds: the determined run over these dependences comes to that outcome, or a question that the
-- search for it poses with this budget stops so
abbrev pub IsCauseOf : ℕ → List Dependence → KernelModel → KeptLine → Type 0
IsCauseOf budget deps model told =
    (cause : Kept) × Keeps model.parameters (loops_in model) deps budget cause × (line_of_kept cause ≡ Some told)

-- the covers of a program, but for those on marked arrays, as this budget tells them
abbrev pub covers_in : ℕ → List ℕ → Program → List Dependence
covers_in budget marked program = covers_of budget marked (model_of program)

-- the text is that of the schedule that is found over all covers, or the kept line of a cause that holds
abbrev pub IsPlanOf : ℕ → KernelModel → List ℕ → Type 0
IsPlanOf budget model text =
    ((blocks : List Block) × IsSearched budget (covers_of budget [] model) model blocks
    × (text ≡ schedule_text blocks))
    ⊎ ((told : KeptLine) × IsCauseOf budget (covers_of budget [] model) model told × (text ≡ kept_text told))

-- the same of a program's model
abbrev pub IsPlanText : ℕ → Program → List ℕ → Type 0
IsPlanText budget program text = IsPlanOf budget (model_of program) text
