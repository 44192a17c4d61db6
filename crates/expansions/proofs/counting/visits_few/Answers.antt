use Rattle.scop_syntax.proofs.Common.{ap, arith, length}
use Rattle.expansions.proofs.counting.visits_few.Goals as goal

pub are_few-requires-clause-spot : goal.are_few-requires-clause-spot
are_few-requires-clause-spot c = c.in_ok-spot.ensures.spot c.args.params.now

pub returns-clause-few : goal.returns-clause-few
returns-clause-few c e =
    let same = ap length (c.in_ok-spot.ensures.rest c.args.params.now) in
    let few = c.are_few.ensures.few e in
    omega (arith, same, few)

pub returns-clause-many : goal.returns-clause-many
returns-clause-many c e =
    let same = ap length (c.in_ok-spot.ensures.rest c.args.params.now) in
    let many = c.are_few.ensures.many e in
    omega (arith, same, many)
