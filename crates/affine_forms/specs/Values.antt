-- Sums, multiples, substitutions and compositions of forms by their values at every point.
use Rattle.std.specs.Prelude.{◌≡◌, ◌+ℤ◌, ◌*ℤ◌, ℕ, ℤ, List, length, slice_set}
use Rattle.wide_math.specs.Affine.{Affine, value_of, values_of}
use Rattle.affine_forms.specs.Parts.{variables_of}

-- at every point h has the value of f plus the value of g
abbrev pub IsSum : Affine → Affine → Affine → Type 0
IsSum f g h =
    (point : List ℤ) → length point ≡ variables_of f
    → value_of h point ≡ value_of f point +ℤ value_of g point

-- at every point h has k times the value of f
abbrev pub IsMultiple : ℤ → Affine → Affine → Type 0
IsMultiple k f h =
    (point : List ℤ) → length point ≡ variables_of f → value_of h point ≡ k *ℤ value_of f point

-- at every point h has the value that f has where the variable's value is that of g
abbrev pub IsSubstitution : Affine → ℕ → Affine → Affine → Type 0
IsSubstitution f variable g h =
    (point : List ℤ) → length point ≡ variables_of f
    → value_of h point ≡ value_of f (slice_set point variable (value_of g point))

-- at every point of n values h has the value that f has at the values of the inner forms
abbrev pub IsComposition : Affine → List Affine → ℕ → Affine → Type 0
IsComposition f inner n h =
    (point : List ℤ) → length point ≡ n
    → value_of h point ≡ value_of f (values_of inner point)
