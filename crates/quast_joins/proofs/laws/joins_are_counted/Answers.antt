use Rattle.quast_joins.proofs.Counts.{join-count, join-forms, join_added, capped_sum}
use Rattle.quast_joins.proofs.laws.joins_are_counted.Goals as goal

pub returns-clause-count : goal.returns-clause-count
returns-clause-count c = join-count

pub returns-clause-forms : goal.returns-clause-forms
returns-clause-forms c = join-forms

pub returns-clause-nodes : goal.returns-clause-nodes
returns-clause-nodes c = join_added

pub returns-clause-capped : goal.returns-clause-capped
returns-clause-capped c = capped_sum
