use Rattle.scop_syntax.proofs.Common.{◌^◌, refl, arith, FitsSigned, ◌*ℤ◌, w64, to_z-of_z, fits_signed_mul}
use Rattle.scop_roles.proofs.forms.product.Goals as goal

pub returns : goal.returns
returns c =
    let a = c.args.factor in
    let b = c.args.number in
    let fa : FitsSigned w64 a = c.ranges.factor in
    let fb : FitsSigned w64 b = c.ranges.number in
    let fits : FitsSigned w64 (a *ℤ b) =
    fits_signed_mul w64 a b (2 ^ 20) (2 ^ 20) c.requires.factor c.requires.number (omega arith) in
    simp to_z-of_z refl
