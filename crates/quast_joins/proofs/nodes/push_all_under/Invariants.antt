use Rattle.quast_joins.proofs.Common.{standing, pairs, under_step}
use Rattle.quast_joins.proofs.Marks.{Stepped}
use Rattle.quast_joins.proofs.nodes.push_all_under.Given as goal

abbrev pub invariant-loop-at : goal.invariant-loop-at
invariant-loop-at l =
    Stepped (under_step l.way l.variables l.more l.leaf) (pairs l.nodes l.binds) (standing l.fn.builder) l.at
    (standing l.builder)
