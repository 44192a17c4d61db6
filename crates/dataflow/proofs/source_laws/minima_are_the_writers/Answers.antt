use Rattle.dataflow.proofs.Common.{sym, walk_of, in_from_place, instance_is_point, reader_side}
use Rattle.dataflow.proofs.AccessWriters.{laws_of, small_turns}
use Rattle.dataflow.proofs.CandidateSolutions.{minimum_wanted, in_statements}
use Rattle.dataflow.proofs.source_laws.minima_are_the_writers.Goals as goal

pub returns : goal.returns
returns c = λ way program params j w b cell dep p number loops t has touches cand own least.
    let walked = c.instances_are_those_of_statements.ensures in
    let numbered = c.statements_are_numbered.ensures in
    let ordered = c.walks_are_in_order.ensures in
    let laws = laws_of program params has.kernel has.count walked.found walked.stands walked.turns numbered.number
    numbered.same numbered.loops numbered.placed ordered.order ordered.once in
    minimum_wanted way program params j w b cell dep p number loops t laws has.count has.parameters
    (λ k u got. small_turns program params has laws c.values_lie_within_45_bits.ensures.turns u
    (in_from_place (walk_of program params) k u got))
    touches cand
    (instance_is_point program params (reader_side way p.from p.to).statement w laws.places.walk has.count
    (record {
      statement = in_statements way program dep p;
      walked = in_from_place (walk_of program params) j w touches.place;
      number = sym own;
    }))
    least
