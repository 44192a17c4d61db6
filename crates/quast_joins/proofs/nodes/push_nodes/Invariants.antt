use Rattle.quast_joins.proofs.Common.{standing, pairs, join_step}
use Rattle.quast_joins.proofs.Marks.{Stepped}
use Rattle.quast_joins.proofs.nodes.push_nodes.Given as goal

abbrev pub invariant-loop-at : goal.invariant-loop-at
invariant-loop-at l =
    Stepped (join_step l.way l.variables (pairs l.others l.binds)) (pairs l.nodes l.rounds) (standing l.fn.builder)
    l.at (standing l.builder)
