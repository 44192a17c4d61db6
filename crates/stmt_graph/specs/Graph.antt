-- The strong components of a graph of statements, numbered in topological order.
use Rattle.std.specs.Prelude.{◌≡◌, ℕ, ◌<◌, ◌≤◌, List, [], ◌∷◌, All, length, ◌⊎◌, ◌↔◌, slice_index_or}
use Rattle.scop_syntax.specs.Members.{In}

-- the number of a statement's component
abbrev pub number_in : List ℕ → ℕ → ℕ
number_in numbers s = slice_index_or numbers s 0

-- both ends of each edge (source, target) are among n statements
abbrev pub AreWithin : ℕ → List (ℕ × ℕ) → Type 0
AreWithin n edges = All (λ e. (e.0 < n) × (e.1 < n)) edges

-- edge by edge from a over the path to b
abbrev pub IsChain : List (ℕ × ℕ) → ℕ → List ℕ → ℕ → Type 0
IsChain edges a [] b = a ≡ b
IsChain edges a (c ∷ path) b = In (a, c) edges × IsChain edges c path b

-- a leads to b, over some edges or none
abbrev pub Reaches : List (ℕ × ℕ) → ℕ → ℕ → Type 0
Reaches edges a b = (path : List ℕ) × IsChain edges a path b

-- the numbers of the strong components of n statements: statements of one component lead to each other, no number falls
-- along an edge, and number k is given to a component with a statement not behind any that is free then, which is one
-- that has no number below k, and to which only such numbers and its own component lead
pub record IsNumbering (n : ℕ) (edges : List (ℕ × ℕ)) (numbers : List ℕ) : Type 0 where
  pub size : length numbers ≡ n
  pub together : (a b : ℕ) → a < n → b < n
      → (number_in numbers a ≡ number_in numbers b) ↔ (Reaches edges a b × Reaches edges b a)
  pub rising : (a b : ℕ) → a < n → b < n → Reaches edges a b → number_in numbers a ≤ number_in numbers b
  pub first : (k a : ℕ) → a < n → k ≤ number_in numbers a
      → ((b : ℕ) → b < n → Reaches edges b a
      → (number_in numbers b < k) ⊎ (number_in numbers b ≡ number_in numbers a))
      → (b : ℕ) × (b ≤ a) × (number_in numbers b ≡ k)
