use Rattle.scop_syntax.proofs.Common.{subst, [], All}
use Rattle.plan_check.specs.Goals.{HasNoPoint, goals_in}
use Rattle.plan_check.specs.Judged.{laying, proving}
use Rattle.plan_check.specs.TextView.{laid_view, stage_view}
use Rattle.plan_check.specs.steps.Stages.{IsStage}
use Rattle.plan_check.proofs.checking.end.Goals as goal

pub returns-in-Laying-clause-points : goal.returns-in-Laying-clause-points
returns-in-Laying-clause-points c plan h ok =
    let model = c.args.model.now in
    let held : IsStage model plan c.args.lines [] (laying (laid_view c.in-Laying.laid)) =
    subst (λ s. IsStage model plan c.args.lines [] (stage_view s)) c.in-Laying.is h in
    subst (λ p. All HasNoPoint (goals_in model p)) held.1 (c.end_items.ensures.points ok)

pub returns-in-Proving-clause-points : goal.returns-in-Proving-clause-points
returns-in-Proving-clause-points c plan h ok =
    let model = c.args.model.now in
    let held : IsStage model plan c.args.lines [] (proving c.in-Proving.checker) =
    subst (λ s. IsStage model plan c.args.lines [] (stage_view s)) c.in-Proving.is h in
    subst (All HasNoPoint) held.1 (c.end_goals.ensures.points ok)
