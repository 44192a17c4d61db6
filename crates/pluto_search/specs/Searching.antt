-- What the search answers.
use Rattle.std.specs.Prelude.{◌≡◌, ℕ, List, Result, Ok, Err, ⊤}
use Rattle.integer_sets.specs.Constraints.{Constraints}
use Rattle.iteration_domains.specs.Dependence.{Dependence, IsDependence}
use Rattle.iteration_domains.specs.Model.{KernelModel}
use Rattle.schedule_rows.specs.Next.{State}
use Rattle.schedule_rows.specs.Outcomes.{ends, no_row, no_order, large, Next}
use Rattle.schedule_rows.specs.Schedule.{Scheduled, IsScheduled, loops_in}
use Rattle.pluto_search.specs.Questions.{AnswersAt, Answered, ComesAnswered, IsPosedAt, Stops}
use Rattle.pluto_search.specs.declared.kept.Kept.TheVariants as kept
use Rattle.scop_syntax.specs.Members.{In}
use Rattle.pluto_systems.specs.Posing.{IsBetween}

-- the determined run comes to a state without a row to come, all questions answered, and the system is that state's
-- posed system
abbrev pub LacksRow : ℕ → List ℕ → ℕ → List Dependence → Constraints → Type 0
LacksRow m loops budget deps posed =
    (s : State) × Answered m loops budget deps s × AnswersAt m loops budget s × Next m loops s no_row
    × IsPosedAt m loops budget s posed

-- why the order is kept: the determined run ends so, all questions answered, or a question is the first that stops
abbrev pub Keeps : ℕ → List ℕ → List Dependence → ℕ → kept.the_data → Type 0
Keeps m loops deps budget (kept.Stuck stuck) = Stops m loops budget deps stuck
Keeps m loops deps budget (kept.NoRow posed) = LacksRow m loops budget deps posed
Keeps m loops deps budget (kept.NoOrder component) = ComesAnswered m loops budget deps (no_order component)
Keeps m loops deps budget kept.NoMemory = ⊤
Keeps m loops deps budget (kept.Large row) = ComesAnswered m loops budget deps (large row)

-- the schedule of a model's dependences, which is that of the determined run, all questions answered; or why the order
-- is kept
abbrev pub Searches : KernelModel → List Dependence → ℕ → Result Scheduled kept.the_data → Type 0
Searches model deps budget (Ok s) =
    (s.model ≡ model) × (s.deps ≡ deps) × (run : IsScheduled s)
    × ComesAnswered model.parameters (loops_in model) budget deps (ends run.blocks)
Searches model deps budget (Err kept) = Keeps model.parameters (loops_in model) deps budget kept

-- dependences between statements of these numbers of loops, with m parameters
abbrev pub AreBetween : ℕ → List ℕ → List Dependence → Type 0
AreBetween m loops deps = (d : Dependence) → In d deps → IsBetween m loops d × IsDependence d
