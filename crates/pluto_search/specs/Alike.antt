-- When two answers of the search are alike.
use Rattle.std.specs.Prelude.{◌≡◌, Result, Ok, Err, ⊤}
use Rattle.pip_solver.specs.Problem.{Problem}
use Rattle.pip_solver.specs.declared.stop.Stop.TheVariants as solver
use Rattle.pluto_systems.specs.Stuck.TheVariants as stuck
use Rattle.schedule_rows.specs.Schedule.{Scheduled}
use Rattle.pluto_search.specs.declared.kept.Kept.TheVariants as kept

-- one problem: its unknowns and parameters, rows and context
pub record IsOneProblem (p q : Problem) : Type 0 where
  pub unknowns : p.unknowns ≡ q.unknowns
  pub parameters : p.parameters ≡ q.parameters
  pub rows : p.rows.items ≡ q.rows.items
  pub context : p.context.items ≡ q.context.items

-- the solver stops for one cause, at one problem, after as many moves
abbrev pub IsOneStop : solver.the_data → solver.the_data → Type 0
IsOneStop (solver.Wide p moves) (solver.Wide q other) = IsOneProblem p q × (moves ≡ other)
IsOneStop (solver.Spent p moves) (solver.Spent q other) = IsOneProblem p q × (moves ≡ other)
IsOneStop solver.NoMemory solver.NoMemory = ⊤
IsOneStop s t = ⊥

-- one question stops so, or one elimination does
abbrev pub IsOneStuck : stuck.the_data → stuck.the_data → Type 0
IsOneStuck (stuck.Solver s) (stuck.Solver t) = IsOneStop s t
IsOneStuck (stuck.Elimination s) (stuck.Elimination t) = s ≡ t
IsOneStuck stuck.NoMemory stuck.NoMemory = ⊤
IsOneStuck s t = ⊥

-- one cause, with all that it tells
abbrev pub IsOneCause : kept.the_data → kept.the_data → Type 0
IsOneCause (kept.Stuck s) (kept.Stuck t) = IsOneStuck s t
IsOneCause (kept.NoRow posed) (kept.NoRow other) = posed ≡ other
IsOneCause (kept.NoOrder component) (kept.NoOrder other) = component ≡ other
IsOneCause kept.NoMemory kept.NoMemory = ⊤
IsOneCause (kept.Large row) (kept.Large other) = row ≡ other
IsOneCause k l = ⊥

-- one schedule, or one cause
abbrev pub AreAlike : Result Scheduled kept.the_data → Result Scheduled kept.the_data → Type 0
AreAlike (Ok s) (Ok t) = s ≡ t
AreAlike (Err k) (Err l) = IsOneCause k l
AreAlike a b = ⊥

-- an answer that is not want of memory
abbrev pub IsDecided : Result Scheduled kept.the_data → Type 0
IsDecided (Err kept.NoMemory) = ⊥
IsDecided a = ⊤
