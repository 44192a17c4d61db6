-- How a question that stops keeps the order.
use Rattle.std.specs.Prelude.{◌≡◌, ℕ, List, Option, None, Some, Result, Ok, Err, ⊤, true, false}
use Rattle.iteration_domains.specs.Dependence.{Dependence}
use Rattle.pip_solver.specs.declared.stop.Stop.TheVariants as solver
use Rattle.pluto_systems.specs.Stuck.TheVariants as stuck
use Rattle.schedule_rows.specs.Items.{Marked}
use Rattle.schedule_rows.specs.Dependences.{IsEmptyDep}
use Rattle.schedule_rows.specs.Next.{restricted}
use Rattle.pluto_search.specs.Questions.{IsTold, AnswersEmptiness, StopsEmptiness}
use Rattle.pluto_search.specs.declared.kept.Kept.TheVariants as kept

-- a question to the solver that stops keeps it so
abbrev pub kept_by_solver : solver.the_data → kept.the_data
kept_by_solver (solver.Wide posed moves) = kept.Stuck (stuck.Solver (solver.Wide posed moves))
kept_by_solver (solver.Spent posed moves) = kept.Stuck (stuck.Solver (solver.Spent posed moves))
kept_by_solver solver.NoMemory = kept.NoMemory

-- rows by Farkas's lemma that are not found do
abbrev pub kept_by_rows : stuck.the_data → kept.the_data
kept_by_rows (stuck.Solver stop) = kept.Stuck (stuck.Solver stop)
kept_by_rows (stuck.Elimination stop) = kept.Stuck (stuck.Elimination stop)
kept_by_rows stuck.NoMemory = kept.NoMemory

-- a stop of which P holds, or want of memory
abbrev pub IsStop : (stuck.the_data → Type 0) → kept.the_data → Type 0
IsStop P (kept.Stuck stuck) = IsTold stuck × P stuck
IsStop P (kept.NoRow posed) = ⊥
IsStop P (kept.NoOrder component) = ⊥
IsStop P kept.NoMemory = ⊤
IsStop P (kept.Large row) = ⊥

-- a dependence restricted to equal values of rows, where it is not empty then
abbrev pub Restrictions : ℕ → List Marked → ℕ → Dependence → Result (Option Dependence) kept.the_data → Type 0
Restrictions m rows budget d (Ok None) =
    IsEmptyDep m (restricted m rows d) × AnswersEmptiness budget true (restricted m rows d)
Restrictions m rows budget d (Ok (Some e)) =
    (e ≡ restricted m rows d) × (IsEmptyDep m (restricted m rows d) → ⊥)
    × AnswersEmptiness budget false (restricted m rows d)
Restrictions m rows budget d (Err kept) = IsStop (StopsEmptiness budget (restricted m rows d)) kept
