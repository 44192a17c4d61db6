-- When a call answers what its run gives, and when it is stuck.
use Rattle.std.specs.Prelude.{◌≡◌, ℕ, Bool, Result, Ok, Err, ⊤}
use Rattle.integer_sets.specs.Constraints.{Constraints}
use Rattle.fm_projection.specs.declared.stop.FmStop.TheVariants as fm
use Rattle.pip_solver.specs.declared.stop.Stop.TheVariants as solver
use Rattle.pip_solver.specs.Promises.{Empties}
use Rattle.farkas.specs.declared.stuck.Stuck.TheVariants as stuck
use Rattle.farkas.specs.Run.{Halt, wide, crowded, unanswered}

-- a stop of the solver is that of the question at which the run halts
abbrev pub IsUnanswered : {Y : Type 0} → ℕ → Result Bool solver.the_data → Result Y Halt → Type 0
IsUnanswered budget told run = (s : Constraints) × (run ≡ Err (unanswered s)) × Empties told budget s

-- a call is stuck where and as the run halts; want of memory may stop it anywhere, and is told as such alone
abbrev pub Halts : {Y : Type 0} → ℕ → stuck.the_data → Result Y Halt → Type 0
Halts budget (stuck.Elimination (fm.Wide w)) run = run ≡ Err (wide w)
Halts budget (stuck.Elimination (fm.Crowded pairs)) run = run ≡ Err (crowded pairs)
Halts budget (stuck.Elimination (fm.Large number)) run = ⊥
Halts budget (stuck.Elimination fm.NoMemory) run = ⊥
Halts budget (stuck.Solver (solver.Wide posed moves)) run = IsUnanswered budget (Err (solver.Wide posed moves)) run
Halts budget (stuck.Solver (solver.Spent posed moves)) run = IsUnanswered budget (Err (solver.Spent posed moves)) run
Halts budget (stuck.Solver solver.NoMemory) run = ⊥
Halts budget stuck.NoMemory run = ⊤

-- a call gives what the run gives, seen through `view`, or is stuck as it halts
abbrev pub Follows : {X Y : Type 0} → (X → Y) → ℕ → Result X stuck.the_data → Result Y Halt → Type 0
Follows view budget (Ok x) run = run ≡ Ok (view x)
Follows view budget (Err e) run = Halts budget e run
