-- What is bound on the way of a point through a tree, and how large the numbers are by which its turns are told.
use Rattle.std.specs.Prelude.{◌≡◌, true, ℤ, pos, negsuc, neg_ℤ, ◌-ℤ◌, ◌≤ℤ◌, ◌<ℤ◌, List, [], ◌∷◌, ◌++◌, All, ⊤}
use Rattle.whole_numbers.specs.Affine.{Affine, form_of, value_of, complement}
use Rattle.whole_numbers.specs.Fits.{fits}
use Rattle.whole_numbers.specs.Floor.{floor}
use Rattle.whole_numbers.specs.Lists.{multiples}
use Rattle.quast_trees.specs.Tree.{Tree, initial, leaf, branch, bind}

-- no quotient that is bound on the way of the point is negative
abbrev pub BindsUp : Tree → List ℤ → Type 0
BindsUp initial point = ⊤
BindsUp (leaf l) point = ⊤
BindsUp (branch test first second) point =
    (pos 0 ≤ℤ value_of test point → BindsUp first point) × (value_of test point <ℤ pos 0 → BindsUp second point)
BindsUp (bind form divisor body) point =
    (pos 0 ≤ℤ floor (value_of form point) divisor) × BindsUp body (point ++ floor (value_of form point) divisor ∷ [])

-- 128 bits hold each number of a form
pub record IsHeld (form : Affine) : Type 0 where
  pub coefficients : All (λ c. fits c ≡ true) form.coefficients
  pub constant : fits form.constant ≡ true

-- d - 1 - f: with d q added not negative just where the quotient of f by d, rounded down, is at most q
abbrev pub rest_of : Affine → ℤ → Affine
rest_of f d = form_of (multiples (negsuc 0) f.coefficients) ((d -ℤ pos 1) -ℤ f.constant)

-- 128 bits hold the numbers of the rows by which a tree's turns are told, beside those of its own forms: of a test's
-- opposite, and of the two rows that tie a quotient to its form
abbrev pub CanTell : Tree → Type 0
CanTell initial = ⊤
CanTell (leaf l) = ⊤
CanTell (branch test first second) = IsHeld (complement test) × CanTell first × CanTell second
CanTell (bind form divisor body) = (fits (neg_ℤ divisor) ≡ true) × IsHeld (rest_of form divisor) × CanTell body
