use Rattle.dataflow.proofs.AccessWriters.{laws_of, small_turns}
use Rattle.dataflow.proofs.ResolvedWriters.{access_at, resolved_wanted}
use Rattle.dataflow.proofs.source_laws.resolved_reads_have_their_writers.Goals as goal

pub returns : goal.returns
returns c = λ way program params j w access cell budget u has touches run.
    let walked = c.instances_are_those_of_statements.ensures in
    let numbered = c.statements_are_numbered.ensures in
    let ordered = c.walks_are_in_order.ensures in
    let laws = laws_of program params has.kernel has.count walked.found walked.stands walked.turns numbered.number
    numbered.same numbered.loops numbered.placed ordered.order ordered.once in
    resolved_wanted way program params j w access cell budget u
    (access_at program params j w access cell has laws
    (small_turns program params has laws c.values_lie_within_45_bits.ensures.turns) touches) run
