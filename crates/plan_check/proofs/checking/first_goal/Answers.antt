use Rattle.scop_syntax.proofs.Common.{rules, sym, subst, ◌≡◌, Ok}
use Rattle.wide_math.specs.Gives.{Gives, IsTold}
use Rattle.plan_check.specs.Judged.{goal_judged, goals_opened, proving, proving_stage, then_goals}
use Rattle.plan_check.specs.TextView.{laid_view, rejected_in, stage_view}
use Rattle.plan_check.proofs.Reached.{told_opening}
use Rattle.plan_check.proofs.checking.first_goal.Goals as goal

pub returns-in-Err : goal.returns-in-Err
returns-in-Err c =
    let stop = rejected_in c.in-Err.stop in
    let run = goals_opened c.args.model.now c.args.lines (laid_view c.args.laid) in
    let told : IsTold stop run = search rules in
    told_opening stop (then_goals run (λ p. goal_judged c.args.lines p c.args.number)) (λ p. Ok (proving p))
    (told_opening stop run (λ p. goal_judged c.args.lines p c.args.number) told)

pub returns-in-Ok : goal.returns-in-Ok
returns-in-Ok c =
    let opened : goals_opened c.args.model.now c.args.lines (laid_view c.args.laid) ≡ Ok c.in-Ok.checker = search rules in
    subst (λ r. Gives rejected_in stage_view c.goal_line.result
    (proving_stage (then_goals r (λ p. goal_judged c.args.lines p c.args.number)))) (sym opened) c.goal_line.ensures
