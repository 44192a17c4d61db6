use Rattle.dataflow.proofs.Common.{[], refl, one_model, params_not_negative}
use Rattle.dataflow.proofs.AccessWriters.{laws_of}
use Rattle.dataflow.proofs.CoverFacts.{cover_laws}
use Rattle.dataflow.proofs.CoverPoints.{stopped_points, told_points}
use Rattle.dataflow.proofs.cover_laws.covering_points_are_covers.Goals as goal

pub returns-clause-told : goal.returns-clause-told
returns-clause-told c = λ program params budget way reader tree x y has among run.
    told_points way program params budget reader tree x y
    (let walked = c.instances_are_those_of_statements.ensures in
    let numbered = c.statements_are_numbered.ensures in
    let ordered = c.walks_are_in_order.ensures in
    let leaves = c.answers_are_live_leaves.ensures in
    cover_laws program params budget has
    (laws_of program params has.kernel has.count walked.found walked.stands walked.turns numbered.number
    numbered.same numbered.loops numbered.placed ordered.order ordered.once)
    c.values_lie_within_45_bits.ensures.turns
    (record {
      answers = leaves.answers;
      found = leaves.found;
      over = leaves.over;
      among = leaves.among;
      quotients = c.bound_quotients_are_not_negative.ensures;
    }))
    among run

pub returns-clause-stopped : goal.returns-clause-stopped
returns-clause-stopped c = λ program params budget way reader stop x y has run.
    let points = c.conflicts_are_the_points_of_the_systems.ensures in
    stopped_points way program params budget reader stop x y
    (one_model program has.kernel (c.statements_are_numbered.ensures.same program)
    (c.statements_are_numbered.ensures.number program))
    (λ dep xs ys point.
    let pair = points.points program params [] dep xs ys has.kernel has.count point.among point in
    (pair.0, pair.1, pair.2))
    (λ i j pair.
    let found = points.conflicts program params [] i j pair refl has.count
    (params_not_negative params has.parameters) in
    (found.0, found.1, found.2, found.3))
    run
