-- What the kernel vectors of rows are: those of the reduced echelon form of the rows, with pivots from the outermost, first
-- column, in least whole numbers.
use Rattle.std.specs.Prelude.{◌≡◌, ℕ, ◌<◌, ℤ, pos, ◌<ℤ◌, List, [], ◌∷◌, length, get_or, All, ◌⊎◌, ⊤}
use Rattle.whole_numbers.specs.Lists.{dot, sums, multiples, zeros}
use Rattle.whole_numbers.specs.Content.{content}

-- an entry of a vector, 0 behind its end
abbrev pub at : List ℤ → ℕ → ℤ
at v i = get_or v i (pos 0)

-- the product with each row is 0
abbrev pub IsOrthogonal : List (List ℤ) → List ℤ → Type 0
IsOrthogonal rows v = All (λ c. dot v c ≡ pos 0) rows

-- of n columns, j is a combination of those before it in all rows, so that it has no pivot: some vector that is orthogonal
-- to all rows ends there
pub record IsFree (n : ℕ) (rows : List (List ℤ)) (j : ℕ) : Type 0 where
  pub vector : List ℤ
  pub size : length vector ≡ n
  pub orthogonal : IsOrthogonal rows vector
  pub some : at vector j ≡ pos 0 → ⊥
  pub behind : (i : ℕ) → j < i → at vector i ≡ pos 0

-- the least vector of whole numbers that is orthogonal to all rows, positive at column j, and 0 behind it and at all other
-- free columns
pub record IsKernelVector (n : ℕ) (rows : List (List ℤ)) (j : ℕ) (v : List ℤ) : Type 0 where
  pub size : length v ≡ n
  pub orthogonal : IsOrthogonal rows v
  pub positive : pos 0 <ℤ at v j
  pub behind : (i : ℕ) → j < i → at v i ≡ pos 0
  pub others : (i : ℕ) → IsFree n rows i → (i ≡ j → ⊥) → at v i ≡ pos 0
  pub lowest : content v ≡ 1

-- column by column and vector by vector, as many of the one as of the other
abbrev pub AreOf : (ℕ → List ℤ → Type 0) → List ℕ → List (List ℤ) → Type 0
AreOf P [] [] = ⊤
AreOf P [] (v ∷ vs) = ⊥
AreOf P (j ∷ js) [] = ⊥
AreOf P (j ∷ js) (v ∷ vs) = P j v × AreOf P js vs

-- each number is less than all behind it
abbrev pub IsRising : List ℕ → Type 0
IsRising [] = ⊤
IsRising (j ∷ js) = All (λ i. j < i) js × IsRising js

-- j stands in the list
abbrev pub In : ℕ → List ℕ → Type 0
In j [] = ⊥
In j (k ∷ ks) = (j ≡ k) ⊎ In j ks

-- one vector for each free column, outermost first
pub record AreKernelVectors (n : ℕ) (rows ns : List (List ℤ)) : Type 0 where
  pub columns : List ℕ
  pub rising : IsRising columns
  pub free : (j : ℕ) → IsFree n rows j → In j columns
  pub each : AreOf (IsKernelVector n rows) columns ns

-- the sum of multiples of vectors over n columns; where a vector or its factor is missing nothing is added
abbrev pub combination : ℕ → List ℤ → List (List ℤ) → List ℤ
combination n [] ns = zeros n
combination n (t ∷ ts) [] = zeros n
combination n (t ∷ ts) (v ∷ vs) = sums (multiples t v) (combination n ts vs)

-- v is a rational combination of the vectors: a positive multiple of it is a sum of whole multiples of them
pub record IsSpanned (n : ℕ) (ns : List (List ℤ)) (v : List ℤ) : Type 0 where
  pub factor : ℤ
  pub positive : pos 0 <ℤ factor
  pub factors : List ℤ
  pub sum : multiples factor v ≡ combination n factors ns
