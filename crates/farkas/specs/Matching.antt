-- The matching of coefficients in Farkas's identity, number by number in 128 bits: an equality for each coefficient of
-- the claimed form, and one for its constant.
use Rattle.std.specs.Prelude.{ℕ, suc, ◌<◌, ◌+◌, ◌*◌, ℤ, pos, negsuc, List, [], ◌∷◌, ◌++◌, length, Result, Ok, ⊤}
use Rattle.whole_numbers.specs.Affine.{Affine, form_of}
use Rattle.wide_math.specs.declared.Wide.{Wide}
use Rattle.wide_math.specs.Checked.{difference_of, ◌>>=◌}
use Rattle.fractions.specs.Elimination.{coefficient_of}
use Rattle.integer_sets.specs.Constraints.{Constraints}
use Rattle.farkas.specs.declared.matching.Entry.{Entry}
use Rattle.farkas.specs.declared.matching.Entry.TheVariants as entry

-- Each run gives the exact result, or names the first number on its way that 128 bits do not hold.

-- a number of a form
abbrev pub entry_of : Entry → Affine → ℤ
entry_of (entry.Coefficient variable) f = coefficient_of variable f
entry_of entry.Constant f = f.constant

-- it has that number
abbrev pub HasEntry : Entry → ℕ → Type 0
HasEntry (entry.Coefficient variable) n = variable < n
HasEntry entry.Constant n = ⊤

-- of each equality the opposite, for its form, and the number itself, for the form's opposite
abbrev pub equality_columns_run : Entry → List Affine → Result (List ℤ) Wide
equality_columns_run e [] = Ok []
equality_columns_run e (f ∷ fs) =
    difference_of (pos 0) (entry_of e f) >>= λ b. equality_columns_run e fs >>= λ bs. Ok (b ∷ entry_of e f ∷ bs)

-- of each row the opposite
abbrev pub row_columns_run : Entry → List Affine → Result (List ℤ) Wide
row_columns_run e [] = Ok []
row_columns_run e (f ∷ fs) =
    difference_of (pos 0) (entry_of e f) >>= λ b. row_columns_run e fs >>= λ bs. Ok (b ∷ bs)

-- the equality of a number: its factors of the unknowns, the column of m0, those of the multipliers
unfoldable pub matched_run : Entry → List ℤ → ℤ → Constraints → Result Affine Wide
matched_run e own free s =
    equality_columns_run e s.equalities >>= λ es.
    row_columns_run e s.rows >>= λ rs. Ok (form_of (own ++ free ∷ (es ++ rs)) (pos 0))

-- the equalities of the coefficients from i on
abbrev pub coefficients_run : ℕ → List (List ℤ) → Constraints → Result (List Affine) Wide
coefficients_run i [] s = Ok []
coefficients_run i (own ∷ owns) s =
    matched_run (entry.Coefficient i) own (pos 0) s >>= λ f. coefficients_run (suc i) owns s >>= λ fs. Ok (f ∷ fs)

-- the equalities of all coefficients, then that of the constant
unfoldable pub matching_run : List (List ℤ) → List ℤ → Constraints → Result (List Affine) Wide
matching_run linear constant s =
    coefficients_run 0 linear s >>= λ fs. matched_run entry.Constant constant (negsuc 0) s >>= λ f. Ok (fs ++ f ∷ [])

-- how many columns stand behind the unknowns: m0, and a multiplier for each row, two for an equality
abbrev pub multipliers_of : Constraints → ℕ
multipliers_of s = 1 + (2 * length s.equalities + length s.rows)
