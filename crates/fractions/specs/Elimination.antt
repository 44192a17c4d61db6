-- The elimination of a variable from equalities and rows: by an equality that has it, else Fourier's and Motzkin's
-- (Schrijver, Theory of Linear and Integer Programming, section 12.2).
use Rattle.std.specs.Prelude.{ℕ, zero, suc, ℤ, pos, negsuc, ◌*ℤ◌, neg_ℤ, unsigned_abs, Bool, true, false, not}
use Rattle.std.specs.Prelude.{if◌then◌else◌, List, [], ◌∷◌, ◌++◌, map, get_or, Option, Some, None}
use Rattle.whole_numbers.specs.Affine.{Affine, sum_of_forms, multiple_of_form, form_of}
use Rattle.whole_numbers.specs.Content.{lowest_of_form}

-- a form's coefficient of variable i
abbrev pub coefficient_of : ℕ → Affine → ℤ
coefficient_of i f = get_or f.coefficients i (pos 0)

-- z = 0
abbrev pub is_zero : ℤ → Bool
is_zero (pos zero) = true
is_zero (pos (suc n)) = false
is_zero (negsuc n) = false

-- z /= 0
abbrev pub is_not_zero : ℤ → Bool
is_not_zero z = not (is_zero z)

-- 0 < z
abbrev pub is_positive : ℤ → Bool
is_positive (pos zero) = false
is_positive (pos (suc n)) = true
is_positive (negsuc n) = false

-- z < 0
abbrev pub is_negative : ℤ → Bool
is_negative (pos n) = false
is_negative (negsuc n) = true

-- the forms whose coefficient of variable i passes the test, in order
abbrev pub chosen : (ℤ → Bool) → ℕ → List Affine → List Affine
chosen test i [] = []
chosen test i (f ∷ fs) = if test (coefficient_of i f) then f ∷ chosen test i fs else chosen test i fs

-- b P + a N, for coefficients a > 0 in P and -b < 0 in N
abbrev pub combined : ℕ → Affine → Affine → Affine
combined i p n =
    sum_of_forms (multiple_of_form (neg_ℤ (coefficient_of i n)) p) (multiple_of_form (coefficient_of i p) n)

-- P with each N in order
abbrev pub paired : ℕ → Affine → List Affine → List Affine
paired i p [] = []
paired i p (n ∷ ns) = combined i p n ∷ paired i p ns

-- each P in order with each N in order
abbrev pub pairs : ℕ → List Affine → List Affine → List Affine
pairs i [] ns = []
pairs i (p ∷ ps) ns = paired i p ns ++ pairs i ps ns

-- Fourier's and Motzkin's elimination of variable i from rows: the rows without it, then the pairs
abbrev pub projected_rows : ℕ → List Affine → List Affine
projected_rows i rows =
    chosen is_zero i rows ++ pairs i (chosen is_positive i rows) (chosen is_negative i rows)

-- 1 or -1
abbrev pub sign : ℤ → ℤ
sign (pos n) = pos 1
sign (negsuc n) = negsuc 0

-- |a| R - sign(a) c E, for coefficients a in the equality E and c in R
abbrev pub reduced : ℕ → Affine → Affine → Affine
reduced i e r =
    sum_of_forms (multiple_of_form (pos (unsigned_abs (coefficient_of i e))) r)
    (multiple_of_form (neg_ℤ (sign (coefficient_of i e) *ℤ coefficient_of i r)) e)

-- the forms without variable i, then the others with its value by the equality E in its place
abbrev pub reduced_all : ℕ → Affine → List Affine → List Affine
reduced_all i e fs = chosen is_zero i fs ++ map (reduced i e) (chosen is_not_zero i fs)

-- what has been found, with one form more in front of the others
abbrev pub in_front : Affine → Option (Affine × List Affine) → Option (Affine × List Affine)
in_front f None = None
in_front f (Some found) = Some (found.0, f ∷ found.1)

-- the first form with variable i, and the others in order
abbrev pub first_with : ℕ → List Affine → Option (Affine × List Affine)
first_with i [] = None
first_with i (f ∷ fs) = if is_zero (coefficient_of i f) then in_front f (first_with i fs) else Some (f, fs)

-- the elimination of variable i by the equality that has been found, with the others, or else by pairs of rows
abbrev pub eliminated_by : ℕ → Option (Affine × List Affine) → List Affine → List Affine → List Affine × List Affine
eliminated_by i None equalities rows = (map lowest_of_form equalities, map lowest_of_form (projected_rows i rows))
eliminated_by i (Some found) equalities rows =
    (map lowest_of_form (reduced_all i found.0 found.1), map lowest_of_form (reduced_all i found.0 rows))

-- the elimination of variable i from equalities and rows, all in lowest terms: by the first equality with it where
-- there is one
unfoldable pub eliminated : ℕ → List Affine → List Affine → List Affine × List Affine
eliminated i equalities rows = eliminated_by i (first_with i equalities) equalities rows

-- a list without its entry i
abbrev pub removed : ℕ → List ℤ → List ℤ
removed i [] = []
removed zero (x ∷ xs) = xs
removed (suc i) (x ∷ xs) = x ∷ removed i xs

-- a form without the column of variable i, which it does not have
abbrev pub narrowed : ℕ → Affine → Affine
narrowed i f = form_of (removed i f.coefficients) f.constant
