use Rattle.whole_numbers.proofs.Common.{◌-◌}
use Rattle.quast_joins.proofs.leaves.+push_chain.Given as goal

abbrev pub decreases-push_chain : goal.decreases-push_chain
decreases-push_chain l = l.common - l.at
