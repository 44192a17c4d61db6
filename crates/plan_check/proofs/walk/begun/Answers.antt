use Rattle.scop_syntax.proofs.Common.{◌∙◌, ap, subst, sym}
use Rattle.iteration_domains.specs.Dependence.{Dependence}
use Rattle.plan_check.specs.Goals.{band_goals, leading_goals}
use Rattle.plan_check.specs.PlanView.{plan_of}
use Rattle.plan_check.specs.GoalList.{CanGo}
use Rattle.plan_check.proofs.Walks.{can_bounded}
use Rattle.plan_check.proofs.walk.begun.Goals as goal

pub returns-clause-goals : goal.returns-clause-goals
returns-clause-goals c =
    let m = c.args.parameters in
    let p = plan_of c.args.plan.now in
    c.in_ok-place.ensures m
    ∙ ap (λ (z : Dependence). leading_goals z p.leading (band_goals m z p)) c.in_ok-dep.ensures

pub returns-clause-can : goal.returns-clause-can
returns-clause-can c =
    let m = c.args.parameters in
    let p = plan_of c.args.plan.now in
    subst (CanGo m p) (sym c.in_ok-dep.ensures) (can_bounded m p c.args.dep.now c.requires)
