-- The kernel vectors of rows, row by row: each row narrows those of the rows before it.
use Rattle.std.specs.Prelude.{ℕ, zero, suc, ◌+◌, ℤ, pos, negsuc, neg_ℤ, Bool, true, false, if◌then◌else◌, List}
use Rattle.std.specs.Prelude.{[], ◌∷◌, map, set, ◌+ℤ◌, ◌≤ℤ◌, All}
use Rattle.whole_numbers.specs.Lists.{dot, sums, multiples, zeros}
use Rattle.whole_numbers.specs.Content.{lowest}

-- z = 0
abbrev pub is_zero : ℤ → Bool
is_zero (pos zero) = true
is_zero (pos (suc n)) = false
is_zero (negsuc n) = false

-- v less a multiple of n, so that its product with c is 0, where a is n's product with c and b is v's; v's own factor is
-- positive
abbrev pub made_flat : ℤ → ℤ → List ℤ → List ℤ → List ℤ
made_flat (pos a) b n v = sums (multiples (pos a) v) (multiples (neg_ℤ b) n)
made_flat (negsuc a) b n v = sums (multiples (pos (suc a)) v) (multiples b n)

-- the same in lowest terms
abbrev pub against : List ℤ → List ℤ → List ℤ → List ℤ
against c n v = lowest (made_flat (dot n c) (dot v c) n v)

-- the kernel vectors when the row c is added: the first vector that is not orthogonal to c goes, its column becomes a
-- pivot, and those behind it are made orthogonal by it
abbrev pub narrowed_by : List ℤ → List (List ℤ) → List (List ℤ)
narrowed_by c [] = []
narrowed_by c (n ∷ ns) = if is_zero (dot n c) then n ∷ narrowed_by c ns else map (against c n) ns

-- narrowed by each of the rows in order
abbrev pub narrowed_all : List (List ℤ) → List (List ℤ) → List (List ℤ)
narrowed_all [] ns = ns
narrowed_all (c ∷ cs) ns = narrowed_all cs (narrowed_by c ns)

-- the units of k columns from column i on, of n columns
abbrev pub units_from : ℕ → ℕ → ℕ → List (List ℤ)
units_from n i zero = []
units_from n i (suc k) = set (zeros n) i (pos 1) ∷ units_from n (i + 1) k

-- those of rows over n columns: with no row the units of all columns
abbrev pub kernel_vectors : ℕ → List (List ℤ) → List (List ℤ)
kernel_vectors n rows = narrowed_all rows (units_from n 0 n)

-- the sum of the vectors' products with c
abbrev pub sum_of_products : List ℤ → List (List ℤ) → ℤ
sum_of_products c [] = pos 0
sum_of_products c (n ∷ ns) = dot n c +ℤ sum_of_products c ns

-- c has no negative product with one of the vectors, and a positive one with some: it grows the rank of their rows
abbrev pub Grows : List ℤ → List (List ℤ) → Type 0
Grows c ns = All (λ n. pos 0 ≤ℤ dot n c) ns × (pos 1 ≤ℤ sum_of_products c ns)
