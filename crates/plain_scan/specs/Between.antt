-- Small numbers, and what constraints of one variable tell.
use Rattle.std.specs.Prelude.{◌≡◌, ℤ, pos, ◌≤◌, ◌<◌, ◌^◌, ◌≤ℤ◌, List, ◌⊎◌, All, unsigned_abs}
use Rattle.whole_numbers.specs.Affine.{Affine}
use Rattle.fractions.specs.Elimination.{coefficient_of}
use Rattle.integer_sets.specs.Constraints.{Constraints}
use Rattle.scop_syntax.specs.Members.{In}

-- the numbers of a form lie within 2^40
abbrev pub HasSmallNumbers : Affine → Type 0
HasSmallNumbers f = All (λ z. unsigned_abs z ≤ 2 ^ 40) f.coefficients × (unsigned_abs f.constant ≤ 2 ^ 40)

-- a number beyond 2^40 is one of the form's
abbrev pub IsLargeIn : Affine → ℤ → Type 0
IsLargeIn f z = (2 ^ 40 < unsigned_abs z) × (In z f.coefficients ⊎ (z ≡ f.constant))

-- it is one of one of the forms'
abbrev pub IsLargeAmong : List Affine → ℤ → Type 0
IsLargeAmong fs z = (f : Affine) × In f fs × IsLargeIn f z

-- it is one of an equality's or of a row's
abbrev pub IsLargeOf : Constraints → ℤ → Type 0
IsLargeOf t z = IsLargeAmong t.equalities z ⊎ IsLargeAmong t.rows z

-- no constraint bounds the one variable from below
abbrev pub IsOpenBelow : Constraints → Type 0
IsOpenBelow t =
    All (λ f. coefficient_of 0 f ≡ pos 0) t.equalities × All (λ f. coefficient_of 0 f ≤ℤ pos 0) t.rows

-- no constraint bounds it from above
abbrev pub IsOpenAbove : Constraints → Type 0
IsOpenAbove t =
    All (λ f. coefficient_of 0 f ≡ pos 0) t.equalities × All (λ f. pos 0 ≤ℤ coefficient_of 0 f) t.rows
