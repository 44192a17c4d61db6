use Rattle.scop_syntax.proofs.Common.{ap, arith, length}
use Rattle.expansions.proofs.counting.are_few.Goals as goal

pub loop-count-preserved : goal.loop-count-preserved
loop-count-preserved c =
    let rest = ap length c.in-Some.ensures.rest in
    let counted = c.loop-count.invariant.counted in
    let few = c.loop-count.invariant.few in
    record {
      spot = c.in-Some.ensures.spot;
      counted = omega (arith, rest, counted);
      few = omega (arith, few);
    }

pub returns-then-count-eq-MOST_CELLS-clause-many : goal.returns-then-count-eq-MOST_CELLS-clause-many
returns-then-count-eq-MOST_CELLS-clause-many c e =
    let rest = ap length c.in-Some.ensures.rest in
    let counted = c.loop-count.invariant.counted in
    omega (arith, rest, counted)
