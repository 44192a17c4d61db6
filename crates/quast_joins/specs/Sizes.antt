-- How large the numbers of a quast's leaves are.
use Rattle.std.specs.Prelude.{ℤ, pos, ◌-ℤ◌, ◌≤ℤ◌, List, [], ◌∷◌, ⊤}
use Rattle.whole_numbers.specs.Affine.{Affine}
use Rattle.quast_trees.specs.Tree.{Tree}
use Rattle.quast_joins.specs.Leaves.{LeavesAre}

-- a number is at most the bound in absolute value
abbrev pub IsWithin : ℤ → ℤ → Type 0
IsWithin bound z = ((pos 0 -ℤ bound) ≤ℤ z) × (z ≤ℤ bound)

-- each number of a list is
abbrev pub AreWithin : ℤ → List ℤ → Type 0
AreWithin bound [] = ⊤
AreWithin bound (x ∷ xs) = IsWithin bound x × AreWithin bound xs

-- each number of a form is
abbrev pub IsFormWithin : ℤ → Affine → Type 0
IsFormWithin bound f = AreWithin bound f.coefficients × IsWithin bound f.constant

-- each number of some forms is
abbrev pub AreFormsWithin : ℤ → List Affine → Type 0
AreFormsWithin bound [] = ⊤
AreFormsWithin bound (f ∷ fs) = IsFormWithin bound f × AreFormsWithin bound fs

-- each number of a leaf's forms is at most the bound in absolute value
abbrev pub LeavesWithin : ℤ → Tree → Type 0
LeavesWithin bound tree = LeavesAre (λ l. AreFormsWithin bound l.forms) tree
