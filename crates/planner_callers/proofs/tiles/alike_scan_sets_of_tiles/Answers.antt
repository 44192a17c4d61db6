use Rattle.scop_syntax.proofs.Common.{pos}
use Rattle.planner_callers.proofs.tiles.alike_scan_sets_of_tiles.Goals as goal

pub returns : goal.returns
returns c = λ blocks model x y. c.scan_sets_are_alike.ensures (pos 1) blocks model x y
