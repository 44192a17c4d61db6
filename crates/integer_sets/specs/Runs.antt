-- Whether a point satisfies a system, in 128 bits, value by value.
use Rattle.std.specs.Prelude.{ℤ, pos, negsuc, Bool, true, false, nat_eq, if◌then◌else◌, List, [], ◌∷◌, Result, Ok}
use Rattle.affine_forms.specs.Affine.{Affine}
use Rattle.affine_forms.specs.Wide.{Wide}
use Rattle.affine_forms.specs.Checked.{◌>>=◌}
use Rattle.affine_forms.specs.Runs.{value_run}
use Rattle.integer_sets.specs.Constraints.{Constraints}

-- z = 0
abbrev pub is_zero : ℤ → Bool
is_zero (pos n) = nat_eq n 0
is_zero (negsuc n) = false

-- 0 <= z
abbrev pub is_not_negative : ℤ → Bool
is_not_negative (pos n) = true
is_not_negative (negsuc n) = false

-- whether each form's value passes the test, tried in order up to the first that does not
abbrev pub each_run : (ℤ → Bool) → List Affine → List ℤ → Result Bool Wide
each_run test [] point = Ok true
each_run test (f ∷ fs) point =
    value_run f point >>= λ v. if test v then each_run test fs point else Ok false

-- whether the point satisfies the system: the equalities, then the rows, up to the first that fails
abbrev pub holds_run : Constraints → List ℤ → Result Bool Wide
holds_run s point =
    each_run is_zero s.equalities point >>= λ equal.
    if equal then each_run is_not_negative s.rows point else Ok false
