use Rattle.scop_syntax.proofs.Common.{[], ap, arith, length, sym}
use Rattle.planner_callers.proofs.tiles.scan_sets_of_tiles.Goals as goal

pub returns-clause-points : goal.returns-clause-points
returns-clause-points c = λ program blocks n s xs kernel none sized among long satisfies.
    c.scan_sets_hold_the_instances.ensures.points program blocks [] 1 n s xs kernel (sym (ap length none)) (omega arith)
    sized among long satisfies

pub returns-clause-instances : goal.returns-clause-instances
returns-clause-instances c = λ program blocks n s v kernel none sized is.
    c.scan_sets_hold_the_instances.ensures.instances program blocks [] 1 n s v kernel (sym (ap length none))
    (omega arith) sized is
