use Rattle.scop_arithmetic.proofs.ContentTypes.{contents_typed}
use Rattle.scop_arithmetic.proofs.laws.contents_hold_their_types.Goals as goal

pub returns : goal.returns
returns c words s at t p extents contents names hold = contents_typed words s at t p extents contents names hold
