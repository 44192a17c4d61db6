-- Which statements are reached from which: rows of answers.
use Rattle.std.specs.Prelude.{◌≡◌, ℕ, ◌<◌, ◌≤◌, Bool, true, false, if◌then◌else◌, List, [], length, All}
use Rattle.std.specs.Prelude.{slice_index_or, Option, None, Some, ◌↔◌}
use Rattle.scop_syntax.specs.Members.{In}
use Rattle.stmt_graph.specs.Graph.{Reaches, number_in}

-- the answer at a statement
abbrev pub at : List Bool → ℕ → Bool
at reached s = slice_index_or reached s false

-- the target of an edge that leads from what is reached to what is not yet; or there is none
abbrev pub Leads : List (ℕ × ℕ) → List Bool → Option ℕ → Type 0
Leads edges reached None = All (λ e. at reached e.0 ≡ true → at reached e.1 ≡ true) edges
Leads edges reached (Some t) =
    (s : ℕ) × In (s, t) edges × (at reached s ≡ true) × (t < length reached) × (at reached t ≡ false)

-- what is reached from a statement
pub record IsReached (n : ℕ) (edges : List (ℕ × ℕ)) (from : ℕ) (reached : List Bool) : Type 0 where
  pub size : length reached ≡ n
  pub exact : (b : ℕ) → b < n → (at reached b ≡ true) ↔ Reaches edges from b

-- of all rows, whether b is reached from a
abbrev pub reaches : List (List Bool) → ℕ → ℕ → Bool
reaches rows a b = at (slice_index_or rows a []) b

-- each row tells what is reached from its statement
pub record IsClosure (n : ℕ) (edges : List (ℕ × ℕ)) (rows : List (List Bool)) : Type 0 where
  pub size : length rows ≡ n
  pub rows_are : (a : ℕ) → a < n → IsReached n edges a (slice_index_or rows a [])

-- each row has an answer for each row
abbrev pub AreSquare : List (List Bool) → Type 0
AreSquare rows = All (λ row. length row ≡ length rows) rows

-- a and b are reached from each other
abbrev pub joined : List (List Bool) → ℕ → ℕ → Bool
joined rows a b = if reaches rows a b then reaches rows b a else false

-- of the statements without a number below k, all from which a is reached are in its component
abbrev pub IsFree : ℕ → List (List Bool) → List ℕ → ℕ → ℕ → Type 0
IsFree n rows numbers k a =
    (b : ℕ) → b < n → k ≤ number_in numbers b → reaches rows b a ≡ true → reaches rows a b ≡ true

-- whether a is free: where not, a statement shows it
abbrev pub Frees : ℕ → List (List Bool) → List ℕ → ℕ → ℕ → Bool → Type 0
Frees n rows numbers k a true = IsFree n rows numbers k a
Frees n rows numbers k a false =
    (b : ℕ) × (b < n) × (k ≤ number_in numbers b) × (reaches rows b a ≡ true) × (reaches rows a b ≡ false)

-- the least statement without a number below k that is free; or there is none
abbrev pub IsNext : ℕ → List (List Bool) → List ℕ → ℕ → Option ℕ → Type 0
IsNext n rows numbers k None = (b : ℕ) → b < n → k ≤ number_in numbers b → IsFree n rows numbers k b → ⊥
IsNext n rows numbers k (Some a) =
    (a < n) × (k ≤ number_in numbers a) × IsFree n rows numbers k a
    × ((b : ℕ) → b < a → k ≤ number_in numbers b → IsFree n rows numbers k b → ⊥)

-- the statements in a's component are given the number k
abbrev pub IsGiven : List (List Bool) → ℕ → ℕ → List ℕ → List ℕ → Type 0
IsGiven rows a k old new =
    (b : ℕ) → b < length old → number_in new b ≡ (if joined rows a b then k else number_in old b)
