-- The lexicographic order of lists of whole numbers, and the least list with a property.
use Rattle.std.specs.Prelude.{◌≡◌, ℕ, ℤ, pos, ◌<ℤ◌, List, length, [], ◌∷◌, ◌⊎◌, ⊤}

-- xs comes before ys: at the first place where they differ xs is less, or xs ends first
abbrev pub LexLess : List ℤ → List ℤ → Type 0
LexLess xs [] = ⊥
LexLess [] (y ∷ ys) = ⊤
LexLess (x ∷ xs) (y ∷ ys) = (x <ℤ y) ⊎ ((x ≡ y) × LexLess xs ys)

-- xs comes before ys or is ys
abbrev pub LexLe : List ℤ → List ℤ → Type 0
LexLe [] ys = ⊤
LexLe (x ∷ xs) [] = ⊥
LexLe (x ∷ xs) (y ∷ ys) = (x <ℤ y) ⊎ ((x ≡ y) × LexLe xs ys)

-- xs is not before zeros: its first entry that is not 0, if there is one, is positive
abbrev pub LexNotNegative : List ℤ → Type 0
LexNotNegative [] = ⊤
LexNotNegative (x ∷ xs) = (pos 0 <ℤ x) ⊎ ((x ≡ pos 0) × LexNotNegative xs)

-- x is the lexicographically least list of n entries with a property
pub record IsLeast (P : List ℤ → Type 0) (n : ℕ) (x : List ℤ) : Type 0 where
  pub size : length x ≡ n
  pub inside : P x
  pub least : (other : List ℤ) → length other ≡ n → P other → LexLess other x → ⊥
