-- When an answer of the solver is its run's, and what a stop tells.
use Rattle.std.specs.Prelude.{◌≡◌, ℕ, ◌+◌, ◌⊎◌, Bool, List, [], ◌∷◌, ◌++◌, Result, Ok, Err, ⊤}
use Rattle.wide_math.specs.declared.Wide.{Wide}
use Rattle.whole_numbers.specs.Affine.{Affine}
use Rattle.checked_tableau.specs.Emptiness.{negated_run, equality_rows_run, posed_run, empty_run}
use Rattle.integer_sets.specs.Constraints.{Constraints, variables_in}
use Rattle.checked_tableau.specs.declared.problem.Problem.{Problem}
use Rattle.pip_solver.specs.declared.stop.Stop.TheVariants as solver
use Rattle.tableau_rows.specs.Run as run

-- rows of the equalities in front of the first whose opposite is too wide
pub record FormedUntil (w : Wide) (equalities rows : List Affine) : Type 0 where
  pub front : List Affine
  pub equality : Affine
  pub behind : List Affine
  pub whole : equalities ≡ front ++ equality ∷ behind
  pub formed : equality_rows_run front ≡ Ok rows
  pub wide : negated_run equality ≡ Err w

-- the problem that a system poses
pub record IsPosed (s : Constraints) (posed : Problem) : Type 0 where
  pub unknowns : posed.unknowns ≡ variables_in s
  pub parameters : posed.parameters ≡ 0
  pub rows : posed_run s ≡ Ok posed.rows.items
  pub context : posed.context.items ≡ []

-- the problem of the rows that a system's equalities form in front of the first number that is too wide
pub record IsBegun (s : Constraints) (w : Wide) (posed : Problem) : Type 0 where
  pub unknowns : posed.unknowns ≡ variables_in s
  pub parameters : posed.parameters ≡ 0
  pub rows : FormedUntil w s.equalities posed.rows.items
  pub context : posed.context.items ≡ []

-- a stop before any move: it tells the rows of the equalities in front of the first number that is too wide; want of
-- memory is free
abbrev pub IsUnposed : solver.the_data → Constraints → Type 0
IsUnposed (solver.Wide posed moves) s = (w : Wide) × (posed_run s ≡ Err w) × IsBegun s w posed × (moves ≡ 0)
IsUnposed (solver.Spent posed moves) s = ⊥
IsUnposed solver.NoMemory s = ⊤

-- an answer is the run's on the system; a stop tells the posed problem, or before any move the part of it that is
-- formed, and the moves made
abbrev pub Empties : Result Bool solver.the_data → ℕ → Constraints → Type 0
Empties (Ok empty) budget s = (left : ℕ) × (empty_run budget s ≡ Ok (empty, left))
Empties (Err (solver.Wide posed moves)) budget s =
    (w : Wide) × (left : ℕ) × (empty_run budget s ≡ Err (run.wide w left)) × (moves + left ≡ budget)
    × (IsPosed s posed ⊎ ((posed_run s ≡ Err w) × IsBegun s w posed × (moves ≡ 0)))
Empties (Err (solver.Spent posed moves)) budget s =
    (empty_run budget s ≡ Err run.spent) × (moves ≡ budget) × IsPosed s posed
Empties (Err solver.NoMemory) budget s = ⊤
