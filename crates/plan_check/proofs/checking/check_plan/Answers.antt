use Rattle.scop_syntax.proofs.Common.{rules, refl, program_of}
use Rattle.iteration_domains.specs.Model.{model_of}
use Rattle.plan_check.specs.steps.Stages.{PlanHolds}
use Rattle.plan_check.proofs.Reached.{plan_in}
use Rattle.plan_check.proofs.checking.check_plan.Goals as goal

pub returns-clause-plan : goal.returns-clause-plan
returns-clause-plan c ok =
    let program = program_of c.args.kernel.now in
    let model = model_of program in
    let text = c.args.text.now in
    let held : PlanHolds model (plan_in model text) = search rules in (
      plan_in model text,
      refl,
      λ params size count range positive.
          c.goals_without_points_make_good_plans.ensures program (plan_in model text) params size c.requires count range
          positive held.suits held.none,
    )
