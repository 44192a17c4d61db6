use Rattle.scop_syntax.proofs.Common.{◌≡◌, take}
use Rattle.scop_meaning.proofs.loops.point_at.Given as goal

abbrev pub invariant-loop-param : goal.invariant-loop-param
invariant-loop-param l = l.point.items ≡ take l.param-index l.params
