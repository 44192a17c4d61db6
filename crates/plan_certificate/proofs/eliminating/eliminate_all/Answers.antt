use Rattle.plan_certificate.specs.steps.States.{state_of}
use Rattle.plan_certificate.proofs.Moves.{grows_then, variable_goes}
use Rattle.plan_certificate.proofs.eliminating.eliminate_all.Goals as goal

pub loop-variable-preserved : goal.loop-variable-preserved
loop-variable-preserved c = record {
  grows = grows_then c.args.variables _ c.loop-variable.rows.rows.items _ c.loop-variable.invariant.grows
      c.in-Ok-Goes.ensures.grows;
  rest = variable_goes c.args.variables c.loop-variable.variable (state_of c.loop-variable.rows)
      (state_of c.eliminate.new.rows) _ c.loop-variable-test.true c.loop-variable.invariant.rest
      (rw c.in-Ok-Goes.field-0-is at c.in-Ok-Goes.ensures.comes);
}
