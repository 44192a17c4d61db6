use Rattle.scop_syntax.proofs.Common.{[]}
use Rattle.quast_joins.specs.declared.way.Way.TheVariants.{Later, Earlier}
use Rattle.planner_callers.proofs.writers.resolved_reads_in_kernels_without_parameters.Goals as goal

pub returns-clause-last : goal.returns-clause-last
returns-clause-last c = λ program j w access cell budget u has touches run.
    c.resolved_reads_have_their_writers.ensures Later program [] j w access cell budget u has touches run

pub returns-clause-next : goal.returns-clause-next
returns-clause-next c = λ program j w access cell budget u has touches run.
    c.resolved_reads_have_their_writers.ensures Earlier program [] j w access cell budget u has touches run
