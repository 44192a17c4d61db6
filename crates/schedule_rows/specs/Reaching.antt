-- Where the determined run comes to.
use Rattle.std.specs.Prelude.{◌≡◌, ℕ, List, [], ◌∷◌}
use Rattle.iteration_domains.specs.Dependence.{Dependence}
use Rattle.schedule_rows.specs.Next.{State, Restricts}
use Rattle.schedule_rows.specs.Outcomes.{goes, state, Next}

-- step by step from s over the states to t
abbrev pub Path : ℕ → List ℕ → State → List State → State → Type 0
Path m loops s [] t = s ≡ t
Path m loops s (v ∷ vs) t = Next m loops s (goes v) × Path m loops v vs t

-- the determined run of dependences comes to this state
pub record Reached (m : ℕ) (loops : List ℕ) (deps : List Dependence) (s : State) : Type 0 where
  pub taken : List Dependence
  pub states : List State
  pub takes : Restricts m [] deps taken
  pub path : Path m loops (state [] [] taken) states s
