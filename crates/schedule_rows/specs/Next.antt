-- The states of the determined run, and what its steps change.
use Rattle.std.specs.Prelude.{◌≡◌, ℕ, ◌<◌, pos, ◌≤ℤ◌, List, [], ◌∷◌, ◌++◌, length, All, ◌⊎◌}
use Rattle.stmt_graph.specs.Graph.{number_in}
use Rattle.schedule_rows.specs.Items.{Row, Marked, Block, band_rows, rows_in}
use Rattle.iteration_domains.specs.Dependence.{Dependence}
use Rattle.schedule_rows.specs.Dependences.{IsEmptyDep, equal_at}
use Rattle.schedule_rows.specs.Posed.{loops_of}

-- the blocks done, the rows of the open band, and the remaining dependences, which do not change while a band is open
pub record State : Type 0 where
  pub closed : List Block
  pub rows : List Marked
  pub remaining : List Dependence

-- the rows so far, those of the open band last
abbrev pub rows_of : State → List Row
rows_of s = rows_in s.closed ++ band_rows s.rows

-- restricted to equal values of the rows
abbrev pub restricted : ℕ → List Marked → Dependence → Dependence
restricted m [] d = d
restricted m (r ∷ rs) d = restricted m rs (equal_at m r.row d)

-- each dependence is restricted and dropped where it is empty; `kept` is what is left
abbrev pub Restricts : ℕ → List Marked → List Dependence → List Dependence → Type 0
Restricts m chosen [] kept = kept ≡ []
Restricts m chosen (d ∷ ds) kept =
    (IsEmptyDep m (restricted m chosen d) × Restricts m chosen ds kept)
    ⊎ ((rest : List Dependence) × (IsEmptyDep m (restricted m chosen d) → ⊥) × Restricts m chosen ds rest
    × (kept ≡ restricted m chosen d ∷ rest))

-- those that join no two components
abbrev pub Uncuts : List ℕ → List Dependence → List Dependence → Type 0
Uncuts numbers [] kept = kept ≡ []
Uncuts numbers (d ∷ ds) kept =
    (((number_in numbers d.source.statement ≡ number_in numbers d.target.statement) → ⊥) × Uncuts numbers ds kept)
    ⊎ ((rest : List Dependence) ×
    (number_in numbers d.source.statement ≡ number_in numbers d.target.statement) × Uncuts numbers ds rest
    × (kept ≡ d ∷ rest))

-- no coefficient or shift is above 4096
abbrev pub IsWithin : Row → Type 0
IsWithin r = All (λ p. All (λ c. c ≤ℤ pos 4096) p.coefficients × (p.shift ≤ℤ pos 4096)) r.parts

-- all components have one statement
abbrev pub AreSingle : ℕ → List ℕ → Type 0
AreSingle n numbers = (a b : ℕ) → a < n → b < n → number_in numbers a ≡ number_in numbers b → a ≡ b

-- the dependence's statements are statements, and it has their numbers of turns
pub record IsSizedDep (loops : List ℕ) (d : Dependence) : Type 0 where
  pub source : d.source.statement < length loops
  pub target : d.target.statement < length loops
  pub source_turns : d.source.loops ≡ loops_of loops d.source.statement
  pub target_turns : d.target.loops ≡ loops_of loops d.target.statement
