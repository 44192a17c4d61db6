use Rattle.dataflow.proofs.AccessWriters.{laws_of}
use Rattle.dataflow.proofs.CoverFacts.{cover_laws}
use Rattle.dataflow.proofs.FlowPoints.{flow_points}
use Rattle.dataflow.proofs.cover_laws.flow_points_are_the_sources.Goals as goal

pub returns : goal.returns
returns c = λ program params budget trees x y has are.
    flow_points program params budget trees x y
    (let walked = c.instances_are_those_of_statements.ensures in
    let numbered = c.statements_are_numbered.ensures in
    let ordered = c.walks_are_in_order.ensures in
    let leaves = c.answers_are_live_leaves.ensures in
    cover_laws program params budget has
    (laws_of program params has.kernel has.count walked.found walked.stands walked.turns numbered.number
    numbered.same numbered.loops numbered.placed ordered.order ordered.once)
    c.values_lie_within_45_bits.ensures.turns
    (record {
      answers = leaves.answers;
      found = leaves.found;
      over = leaves.over;
      among = leaves.among;
      quotients = c.bound_quotients_are_not_negative.ensures;
    })) are
