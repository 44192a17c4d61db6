-- Components with two statements.
use Rattle.std.specs.Prelude.{◌≡◌, ℕ, ◌<◌, ◌≤◌, Bool, true, false, List, length, Option, None, Some}
use Rattle.stmt_graph.specs.Graph.{number_in}
use Rattle.schedule_rows.specs.Outcomes.{IsShared}

-- another statement b is in a's component
abbrev pub IsInComponent : List ℕ → ℕ → ℕ → Type 0
IsInComponent numbers a b = (b < length numbers) × (a ≡ b → ⊥) × (number_in numbers b ≡ number_in numbers a)

-- whether there is one
abbrev pub SharesComponent : List ℕ → ℕ → Bool → Type 0
SharesComponent numbers a true = (b : ℕ) × IsInComponent numbers a b
SharesComponent numbers a false = (b : ℕ) → IsInComponent numbers a b → ⊥

-- the least component with two statements, of those of the first k statements, or none
abbrev pub FindsBelow : List ℕ → ℕ → Option ℕ → Type 0
FindsBelow numbers k None = (a b : ℕ) → a < k → IsInComponent numbers a b → ⊥
FindsBelow numbers k (Some c) =
    IsShared (length numbers) numbers c × ((a b : ℕ) → a < k → IsInComponent numbers a b → c ≤ number_in numbers a)

-- of all
abbrev pub Finds : List ℕ → Option ℕ → Type 0
Finds numbers found = FindsBelow numbers (length numbers) found
