use Rattle.plan_check.specs.Derivations.{step_of}
use Rattle.plan_check.proofs.Progresses.{gain_as}
use Rattle.plan_check.proofs.checker.Checker.add_line.Goals as goal

pub with_row-requires : goal.with_row-requires
with_row-requires c =
    gain_as _ c.args.self (step_of c.args.line.now) c.in-Ok.row _ c.self.view_is c.self.invariant c.requires
    c.deref.ensures.value c.in-Ok.ensures.run
