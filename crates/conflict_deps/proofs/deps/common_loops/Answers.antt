use Rattle.conflict_deps.proofs.Shapes.{common_end}
use Rattle.conflict_deps.proofs.deps.common_loops.Goals as goal

pub returns-then-at-second : goal.returns-then-at-second
returns-then-at-second c =
    common_end c.args.first.now c.args.second.now c.loop-at.at c.loop-at-test.true c.if-at-second.true
    c.loop-at.invariant
