-- The text of the items is that of the blocks whose plan has these goals.
use Rattle.scop_syntax.proofs.Common.{subst, all_in, All, IfOk-weaker, List, Ok}
use Rattle.iteration_domains.specs.Dependence.{Dependence}
use Rattle.schedule_rows.specs.Schedule.{Item, loops_in}
use Rattle.report_text.specs.ScheduleText.{IsNarrowItem, IsTextOf}
use Rattle.plan_check.specs.Goals.{goals_in}
use Rattle.plan_check.specs.PlanView.{plan_of}
use Rattle.plan_check.specs.GoalList.{AreAll}
use Rattle.plan_certificate.specs.SchedulePlan.{plan_of_blocks}
use Rattle.plan_certificate.specs.View.{uncertified_in}
use Rattle.plan_certificate.specs.steps.ItemPlans.{IsPlanned}
use Rattle.plan_certificate.specs.steps.Narrow.{HasNarrow}
use Rattle.plan_certificate.specs.Certificates.{IsNarrow}
use Rattle.plan_certificate.proofs.GoalTexts.{certificate_is, gives_same, goals_are}
use Rattle.plan_certificate.proofs.certifying.certified.Goals as goal

pub returns-in-Err : goal.returns-in-Err
returns-in-Err c =
    record { blocks = c.plan_items.ensures.blocks; run = c.plan_items.ensures.run; gives = tt; narrow = tt }

pub returns-in-Err-of : goal.returns-in-Err-of
returns-in-Err-of c =
    record { blocks = c.plan_items.ensures.blocks; run = c.plan_items.ensures.run; gives = tt; narrow = tt }

pub returns-in-Err-schedule_text : goal.returns-in-Err-schedule_text
returns-in-Err-schedule_text c =
    record { blocks = c.plan_items.ensures.blocks; run = c.plan_items.ensures.run; gives = tt; narrow = tt }

pub returns-in-Ok-schedule_text : goal.returns-in-Ok-schedule_text
returns-in-Ok-schedule_text c =
    let s = c.args.schedule.now in
    let planned : IsPlanned s (Ok c.in-Ok.plan) = c.in-Ok.ensures in
    let blocks = planned.blocks in
    let text : IsTextOf s c.in-Ok-schedule_text.text.items = c.in-Ok-schedule_text.ensures.text in
    let all : AreAll (goals_in c.model.result.now (plan_of c.in-Ok.plan)) c.in-Ok-of.goals = c.in-Ok-of.ensures in
    let one = c.dependences_have_one_schedule.ensures s.model.parameters (loops_in s.model) s.deps text.blocks blocks
    text.run planned.run in
    let items = subst (λ (is : List Item). All IsNarrowItem is) planned.items c.in-Ok-schedule_text.ensures.narrow in
    let goals = goals_are s.model c.model.result.now blocks (plan_of c.in-Ok.plan) c.in-Ok-of.goals.left
    planned.plan.plan_is c.model.ensures all.left in
    record {
      blocks = blocks;
      run = planned.run;
      gives = gives_same uncertified_in _ c.with_proofs.result _ _
          (certificate_is s.model blocks text.blocks _ c.in-Ok-of.goals.left one text.text_is goals)
          c.with_proofs.ensures.gives;
      narrow = IfOk-weaker c.with_proofs.result (λ _. All HasNarrow c.in-Ok-of.goals.left)
          (λ _. IsNarrow s.model blocks)
          (λ text each. record {
            items = items;
            lines = λ d steps is. all_in HasNarrow (goals_in s.model (plan_of_blocks blocks)) d
                (subst (λ (ds : List Dependence). All HasNarrow ds) goals each) is steps;
          })
          c.with_proofs.ensures.narrow;
    }
