use Rattle.scop_arithmetic.proofs.Extents.{array_extents}
use Rattle.scop_arithmetic.proofs.laws.extents_are_whole_numbers.Goals as goal

pub returns : goal.returns
returns c words s at w fs n p later long e =
    array_extents c.faultless_formulas_are_within_limits.ensures.affine words s at w fs n p later long e
