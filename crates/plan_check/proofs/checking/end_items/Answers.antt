use Rattle.scop_syntax.proofs.Common.{rules, subst, ◌≡◌, Ok, All}
use Rattle.plan_check.specs.Goals.{HasNoPoint}
use Rattle.plan_check.specs.Judged.{goals_ended, goals_opened}
use Rattle.plan_check.specs.TextView.{laid_view, rejected_in}
use Rattle.plan_check.proofs.Reached.{opened_goals, told_opening}
use Rattle.plan_check.proofs.checking.end_items.Goals as goal

pub returns-in-Err-clause-judged : goal.returns-in-Err-clause-judged
returns-in-Err-clause-judged c =
    let model = c.args.model.now in
    told_opening (rejected_in c.in-Err.stop) (goals_opened model c.args.lines (laid_view c.args.laid))
    (goals_ended c.args.lines) (search rules)

pub returns-in-Ok-clause-points : goal.returns-in-Ok-clause-points
returns-in-Ok-clause-points c ok =
    let model = c.args.model.now in
    let checker = c.in-Ok.checker in
    let opened : goals_opened model c.args.lines (laid_view c.args.laid) ≡ Ok checker = search rules in
    subst (All HasNoPoint) (opened_goals model c.args.lines (laid_view c.args.laid) checker opened)
    (c.end_goals.ensures.points ok)
