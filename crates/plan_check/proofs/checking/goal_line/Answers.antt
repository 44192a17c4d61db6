use Rattle.scop_syntax.proofs.Common.{rules, Ok}
use Rattle.wide_math.specs.Gives.{IsTold}
use Rattle.plan_check.specs.Judged.{goal_judged, proving}
use Rattle.plan_check.specs.TextView.{rejected_in}
use Rattle.plan_check.proofs.Reached.{told_opening}
use Rattle.plan_check.proofs.checking.goal_line.Goals as goal

pub returns-in-Err : goal.returns-in-Err
returns-in-Err c =
    let run = goal_judged c.args.lines c.args.checker c.args.number in
    let told : IsTold (rejected_in c.in-Err.stop) run = search rules in
    told_opening (rejected_in c.in-Err.stop) run (λ p. Ok (proving p)) told
