-- How large extents get.
use Rattle.scop_syntax.proofs.Common.{◌*◌, ◌^◌, ◌≤◌, List, length, arith, ℤ, pos, negsuc, FitsSigned, unsigned_abs}
use Rattle.scop_syntax.proofs.Common.{w64, ints, Affine, value_of, IsAffine, size_params, value_size}
use Rattle.data_text.specs.steps.Conditions.{AreParameters}

-- the value of an extent
pub value_small : (form : Affine) (params : List ℤ) → IsAffine (length params) form → AreParameters params
    → unsigned_abs (value_of form params) ≤ 5 * 2 ^ 20
value_small form params is are =
    let most = value_size (length params) 16 (2 ^ 20) form params is in
    let point = size_params params are.values in
    omega (arith, most, point, are.few)

abs_fits : (z : ℤ) → unsigned_abs z ≤ 5 * 2 ^ 20 → FitsSigned w64 z
abs_fits (pos n) h = omega (arith, ints, h)
abs_fits (negsuc n) h = omega (arith, ints, h)

pub value_fits : (form : Affine) (params : List ℤ) → IsAffine (length params) form → AreParameters params
    → FitsSigned w64 (value_of form params)
value_fits form params is are = abs_fits (value_of form params) (value_small form params is are)
