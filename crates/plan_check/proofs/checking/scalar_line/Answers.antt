use Rattle.scop_syntax.proofs.Common.{rules}
use Rattle.wide_math.specs.Gives.{IsTold}
use Rattle.schedule_lines.specs.View.{scalar_view}
use Rattle.plan_check.specs.Judged.{scalar_judged}
use Rattle.plan_check.specs.TextView.{laid_view, rejected_in}
use Rattle.plan_check.proofs.Reached.{told_laying}
use Rattle.plan_check.proofs.checking.scalar_line.Goals as goal

pub returns-in-Err : goal.returns-in-Err
returns-in-Err c =
    let run = scalar_judged c.args.lines (laid_view c.args.laid) (scalar_view c.args.scalar) in
    let told : IsTold (rejected_in c.in-Err.stop) run = search rules in
    told_laying (rejected_in c.in-Err.stop) run told
