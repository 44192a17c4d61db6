use Rattle.scop_syntax.proofs.Common.{[], ap, arith, length}
use Rattle.tile_events.specs.Plan as events
use Rattle.tile_core.specs.Plans.{extents_in, plain_shape, sources_in}
use Rattle.tile_core.proofs.Copies.{few_copies}
use Rattle.tile_core.proofs.Plans.{by_copies, copied_is, plain_is}
use Rattle.tile_core.proofs.TouchedCells.{few_at}
use Rattle.tile_core.proofs.plan_laws.instances_read_few.Goals as goal

pub returns : goal.returns
returns c = λ plan j is less.
    let p = plain_shape plan in
    let few = few_at plan j (extents_in plan) c.instances_are_those_of_statements.ensures.found
    c.statements_are_numbered.ensures.placed is less in
    by_copies plan
    (λ none. let same = ap (λ (q : events.Plan). length (q.read j)) (plain_is plan [] none) in omega (arith, few, same))
    (λ some. let same = ap (λ (q : events.Plan). length (q.read j)) (copied_is plan [] some) in
    let copies = few_copies p.cells (p.read j) (sources_in plan j) in omega (arith, few, same, copies))
