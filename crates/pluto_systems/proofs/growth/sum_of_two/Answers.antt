use Rattle.scop_syntax.proofs.Common.{refl, arith, ◌^◌, ◌*◌, ◌+ℤ◌, w128, to_z-of_z, fits_signed_from_abs}
use Rattle.null_space.proofs.Sizes.{within_add}
use Rattle.pluto_systems.proofs.growth.sum_of_two.Goals as goal

pub returns : goal.returns
returns c =
    let fa = c.ranges.a in
    let fb = c.ranges.b in
    let l = within_add (4 * 2 ^ 109) (2 ^ 109) c.args.a c.args.b c.requires.a c.requires.b in
    let ft = fits_signed_from_abs w128 (c.args.a +ℤ c.args.b) (omega (arith, l)) in
    simp to_z-of_z refl
