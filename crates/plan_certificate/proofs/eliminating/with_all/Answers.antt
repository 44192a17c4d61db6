use Rattle.plan_certificate.specs.steps.States.{state_of}
use Rattle.plan_certificate.proofs.Moves.{grows_then, all_goes}
use Rattle.plan_certificate.proofs.eliminating.with_all.Goals as goal

pub returns-in-Ok-Ended-clause-grows : goal.returns-in-Ok-Ended-clause-grows
returns-in-Ok-Ended-clause-grows c =
    grows_then c.args.variables _ c.loop-at.rows.rows.items _ c.loop-at.invariant.grows c.in-Ok-Ended.ensures.grows

pub returns-in-Ok-Passed-clause-grows : goal.returns-in-Ok-Passed-clause-grows
returns-in-Ok-Passed-clause-grows c =
    grows_then c.args.variables _ c.loop-at.rows.rows.items _ c.loop-at.invariant.grows c.in-Ok-Passed.ensures.grows

pub loop-at-preserved : goal.loop-at-preserved
loop-at-preserved c = record {
  grows = grows_then c.args.variables _ c.loop-at.rows.rows.items _ c.loop-at.invariant.grows
      c.in-Ok-Goes.ensures.grows;
  rest = all_goes c.args.variables c.args.variable c.loop-at.at c.args.above.now c.args.below.now (state_of c.loop-at.rows) (state_of c.with_each.new.rows) _
      c.loop-at-test.true c.loop-at.invariant.rest (rw c.in-Ok-Goes.field-0-is at c.in-Ok-Goes.ensures.comes);
}
