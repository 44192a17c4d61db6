use Rattle.scop_syntax.proofs.Common.{rules, sym, subst, ◌≡◌}
use Rattle.plan_check.specs.Derivations.{IsLine, step_of}
use Rattle.plan_check.specs.Judged.{step_of_line}
use Rattle.plan_check.specs.TextView.{step_view}
use Rattle.plan_check.proofs.StepLines.{lines_are}
use Rattle.plan_check.proofs.proving.prove_step.Goals as goal

pub add_line-requires : goal.add_line-requires
add_line-requires c =
    let step = step_view c.args.step.now in
    let read : step_of c.in-Ok.line ≡ step_of_line step = search rules in
    subst IsLine (sym read) (lines_are step c.requires.step)
