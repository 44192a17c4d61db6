-- The least whole point of a system without parameters.
use Rattle.std.specs.Prelude.{◌≡◌, ◌⊎◌, ℕ, List, ℤ, pos, ◌≤ℤ◌, length, All, Option, None, Some, Vec, Result, Ok, Err, ⊤}
use Rattle.std.specs.declared.alloc.Global.{Global}
use Rattle.whole_numbers.specs.Lexicographic.{IsLeast}
use Rattle.integer_sets.specs.Constraints.{Constraints, IsSized, variables_in}
use Rattle.integer_sets.specs.Points.{Satisfies}
use Rattle.checked_tableau.specs.declared.problem.Problem.{Problem}
use Rattle.pip_solver.specs.declared.stop.Stop.TheVariants as solver
use Rattle.pip_solver.specs.Promises.{IsPosed, IsUnposed}
use Rattle.pip_solver.specs.Solving.{Finds}

-- a point of a system that is not negative
abbrev pub IsTaken : Constraints → List ℤ → Type 0
IsTaken s xs = All (λ x. pos 0 ≤ℤ x) xs × Satisfies s xs

-- the least such point, or that there is none
abbrev pub IsMinimum : Constraints → Option (List ℤ) → Type 0
IsMinimum s None = (xs : List ℤ) → length xs ≡ s.dimensions → IsTaken s xs → ⊥
IsMinimum s (Some xs) = IsLeast (IsTaken s) s.dimensions xs

-- what the answer holds
abbrev pub held : Option (Vec ℤ Global) → Option (List ℤ)
held None = None
held (Some v) = Some v.items

-- the problem that a system poses, or a stop before any move
abbrev pub Poses : Constraints → Result Problem solver.the_data → Type 0
Poses s (Ok posed) = IsPosed s posed × IsSized (variables_in s) s.equalities s.rows
Poses s (Err stop) = IsUnposed stop s

-- an answer is the run's on the problem that the system poses; a stop tells that problem, or the part of it that is
-- formed
abbrev pub Minimizes : Result (Option (Vec ℤ Global)) solver.the_data → ℕ → Constraints → Type 0
Minimizes (Ok found) budget s = (posed : Problem) × IsPosed s posed × Finds (Ok found) budget posed
Minimizes (Err (solver.Wide posed moves)) budget s =
    (IsPosed s posed × Finds (Err (solver.Wide posed moves)) budget posed) ⊎ IsUnposed (solver.Wide posed moves) s
Minimizes (Err (solver.Spent posed moves)) budget s =
    IsPosed s posed × Finds (Err (solver.Spent posed moves)) budget posed
Minimizes (Err solver.NoMemory) budget s = ⊤
