use Rattle.whole_numbers.proofs.Common.{arith, refl, ints}
use Rattle.fm_projection.proofs.Loops.{passed, found, zero_is, zero_not}
use Rattle.fm_projection.proofs.rows.first_place.Goals as goal

pub loop-at-preserved : goal.loop-at-preserved
loop-at-preserved c = passed c.args.variable c.loop-at.at c.args.forms.now c.index-forms-at.result c.coefficient.result
    c.loop-at-test.true c.index-forms-at.is c.coefficient.ensures _ c.loop-at.invariant
    (zero_is c.coefficient.result (omega (arith, ints)))

pub returns-then-coefficient-ne0 : goal.returns-then-coefficient-ne0
returns-then-coefficient-ne0 c = found c.args.variable c.loop-at.at c.args.forms.now c.index-forms-at.result
    c.coefficient.result c.loop-at-test.true c.index-forms-at.is c.coefficient.ensures _ c.loop-at.invariant
    (zero_not c.coefficient.result (λ e. c.if-coefficient-ne0.true (rw e refl)))
