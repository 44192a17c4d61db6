-- The elimination of a variable in 128 bits, form by form, and how many pairs of rows it forms.
use Rattle.std.specs.Prelude.{ℕ, suc, ◌*◌, if◌then◌else◌, ℤ, pos, negsuc, List, [], ◌∷◌, ◌++◌, length, map}
use Rattle.std.specs.Prelude.{Option, Some, None, Result, Ok}
use Rattle.whole_numbers.specs.Affine.{Affine}
use Rattle.whole_numbers.specs.Content.{lowest_of_form}
use Rattle.fractions.specs.Elimination.{coefficient_of, is_zero, is_not_zero, is_positive, is_negative, chosen}
use Rattle.fractions.specs.Elimination.{sign, first_with}
use Rattle.wide_math.specs.declared.Wide.{Wide}
use Rattle.wide_math.specs.Checked.{difference_of, product_of, ◌>>=◌}
use Rattle.affine_forms.specs.Runs.{forms_sum_run, forms_difference_run}
use Rattle.integer_sets.specs.Constraints.{Constraints, system_of}

-- Each run gives the exact result, or names the first number on its way that 128 bits do not hold.

-- `step` at each form, in order
abbrev pub forms_run : (Affine → Result Affine Wide) → List Affine → Result (List Affine) Wide
forms_run step [] = Ok []
forms_run step (f ∷ fs) = step f >>= λ g. forms_run step fs >>= λ gs. Ok (g ∷ gs)

-- the list of the one form that a run gives
abbrev pub single : Result Affine Wide → Result (List Affine) Wide
single run = run >>= λ f. Ok (f ∷ [])

-- b P + a N in lowest terms, for coefficients a > 0 in P and -b < 0 in N
unfoldable pub pair_run : ℕ → Affine → Affine → Result Affine Wide
pair_run i p n =
    difference_of (pos 0) (coefficient_of i n) >>= λ b. forms_sum_run b p (coefficient_of i p) n >>= λ f. Ok
    (lowest_of_form f)

-- each P in order with each N in order
abbrev pub pairs_run : ℕ → List Affine → List Affine → Result (List Affine) Wide
pairs_run i [] ns = Ok []
pairs_run i (p ∷ ps) ns = forms_run (pair_run i p) ns >>= λ fs. pairs_run i ps ns >>= λ gs. Ok (fs ++ gs)

-- |a|
abbrev pub size_run : ℤ → Result ℤ Wide
size_run (pos n) = Ok (pos n)
size_run (negsuc n) = difference_of (pos 0) (negsuc n)

-- |a| R - sign(a) c E in lowest terms, for coefficients a in E and c in R
unfoldable pub reduced_run : ℕ → Affine → Affine → Result Affine Wide
reduced_run i e r =
    size_run (coefficient_of i e) >>= λ m.
    product_of (sign (coefficient_of i e)) (coefficient_of i r) >>= λ k.
    forms_difference_run m r k e >>= λ f. Ok (lowest_of_form f)

-- what is there, and what a run gives behind it
abbrev pub behind : List Affine → Result (List Affine) Wide → Result (List Affine) Wide
behind front run = run >>= λ rest. Ok (front ++ rest)

-- the forms without the variable, then the others with its value by the equality E in its place
abbrev pub reduced_all_run : ℕ → Affine → List Affine → Result (List Affine) Wide
reduced_all_run i e fs = behind (map lowest_of_form (chosen is_zero i fs))
    (forms_run (reduced_run i e) (chosen is_not_zero i fs))

-- the rows without the variable, then the pairs
abbrev pub projected_run : ℕ → List Affine → Result (List Affine) Wide
projected_run i rows = behind (map lowest_of_form (chosen is_zero i rows))
    (pairs_run i (chosen is_positive i rows) (chosen is_negative i rows))

-- the elimination of a variable by the equality that has been found, or else by pairs of rows
abbrev pub eliminated_by_run : ℕ → Option (Affine × List Affine) → Constraints → Result Constraints Wide
eliminated_by_run i None s =
    projected_run i s.rows >>= λ rows. Ok (system_of s.dimensions s.parameters
    (map lowest_of_form s.equalities) rows)
eliminated_by_run i (Some found) s =
    reduced_all_run i found.0 found.1 >>= λ equalities.
    reduced_all_run i found.0 s.rows >>= λ rows. Ok (system_of s.dimensions s.parameters equalities rows)

-- the elimination of variable i from a system: by the first equality with it where there is one, else by pairs of rows
unfoldable pub eliminated_run : ℕ → Constraints → Result Constraints Wide
eliminated_run i s = eliminated_by_run i (first_with i s.equalities) s

-- how many pairs of rows an elimination forms; none where it goes by the equality that has been found
abbrev pub pairs_by : ℕ → Option (Affine × List Affine) → List Affine → ℕ
pairs_by i None rows = length (chosen is_positive i rows) * length (chosen is_negative i rows)
pairs_by i (Some found) rows = 0

-- how many pairs of rows the elimination of variable i from a system forms
unfoldable pub pairs_in : ℕ → Constraints → ℕ
pairs_in i s = pairs_by i (first_with i s.equalities) s.rows

-- how many forms stand before the first with the variable
abbrev pub place_of : ℕ → List Affine → ℕ
place_of i [] = 0
place_of i (f ∷ fs) = if is_zero (coefficient_of i f) then suc (place_of i fs) else 0
