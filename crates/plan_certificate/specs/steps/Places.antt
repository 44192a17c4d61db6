-- Where a row with the coefficients of another stands, and what is asked of a coefficient.
use Rattle.std.specs.Prelude.{ℕ, suc, ℤ, Bool, true, false, if◌then◌else◌, List, [], ◌∷◌}
use Rattle.whole_numbers.specs.Affine.{Affine}
use Rattle.fractions.specs.Elimination.{is_negative, is_positive, is_zero}
use Rattle.fm_projection.specs.Tightest.{are_parallel}
use Rattle.plan_certificate.specs.Derivation.{row_of}
use Rattle.plan_certificate.specs.declared.places.Sign.{Sign}
use Rattle.plan_certificate.specs.declared.places.Sign.TheVariants as sign

-- how many places stand before the first whose row has the coefficients of the row at place q
abbrev pub parallel_place : List Affine → ℕ → List ℕ → ℕ
parallel_place rows q [] = 0
parallel_place rows q (p ∷ ps) =
    if are_parallel (row_of rows p) (row_of rows q) then 0 else suc (parallel_place rows q ps)

-- the test of a sign
abbrev pub test_of : Sign → ℤ → Bool
test_of sign.Above = is_positive
test_of sign.Below = is_negative
test_of sign.Zero = is_zero

-- a place, if it stays
abbrev pub one_if : Bool → ℕ → List ℕ
one_if true p = p ∷ []
one_if false p = []
