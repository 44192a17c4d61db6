use Rattle.quast_joins.proofs.Common.{standing, pairs, moved_step}
use Rattle.quast_joins.proofs.Marks.{Stepped}
use Rattle.quast_joins.proofs.nodes.push_all_moved.Given as goal

abbrev pub invariant-loop-at : goal.invariant-loop-at
invariant-loop-at l =
    Stepped (moved_step l.variables l.more) (pairs l.nodes l.binds) (standing l.fn.builder) l.at
    (standing l.builder)
