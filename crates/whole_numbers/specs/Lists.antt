-- Lists of whole numbers as vectors: dot product, sums, multiples, products, zeros, signs.
use Rattle.std.specs.Prelude.{ℕ, zero, suc, ℤ, pos, ◌+ℤ◌, ◌*ℤ◌, ◌≤ℤ◌, ◌<ℤ◌, List, [], ◌∷◌, ⊤}

-- the dot product; past the end of the shorter list entries count as 0
abbrev pub dot : List ℤ → List ℤ → ℤ
dot [] ys = pos 0
dot (x ∷ xs) [] = pos 0
dot (x ∷ xs) (y ∷ ys) = (x *ℤ y) +ℤ dot xs ys

-- the entrywise sum, as long as the longer list: past the end of the shorter its entries count as 0
abbrev pub sums : List ℤ → List ℤ → List ℤ
sums [] ys = ys
sums (x ∷ xs) [] = x ∷ xs
sums (x ∷ xs) (y ∷ ys) = (x +ℤ y) ∷ sums xs ys

-- each entry times k
abbrev pub multiples : ℤ → List ℤ → List ℤ
multiples k [] = []
multiples k (x ∷ xs) = (k *ℤ x) ∷ multiples k xs

-- n zeros
abbrev pub zeros : ℕ → List ℤ
zeros zero = []
zeros (suc n) = pos 0 ∷ zeros n

-- the entrywise product, as long as the shorter list
abbrev pub products : List ℤ → List ℤ → List ℤ
products [] ys = []
products (x ∷ xs) [] = []
products (x ∷ xs) (y ∷ ys) = (x *ℤ y) ∷ products xs ys

-- no entry is negative
abbrev pub NotNegative : List ℤ → Type 0
NotNegative [] = ⊤
NotNegative (x ∷ xs) = (pos 0 ≤ℤ x) × NotNegative xs

-- each entry is positive
abbrev pub Positive : List ℤ → Type 0
Positive [] = ⊤
Positive (x ∷ xs) = (pos 0 <ℤ x) × Positive xs
