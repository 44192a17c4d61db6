use Rattle.scop_syntax.proofs.Common.{arith}
use Rattle.planner_callers.proofs.tiles.places_within_one_loop.Goals as goal

pub returns : goal.returns
returns c = λ blocks x y first second few few'.
    c.places_are_in_order.ensures blocks 1 1 1 x y first second few few' (omega arith)
