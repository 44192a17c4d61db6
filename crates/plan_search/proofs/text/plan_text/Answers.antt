-- The text is the schedule's, or that of the line that tells what keeps the order.
use Rattle.scop_syntax.proofs.Common.{◌∙◌, sym, subst, IfOk-weaker}
use Rattle.plan_search.specs.Found.{LieBetween}
use Rattle.plan_search.proofs.TextLemmas.{schedule_is_plan, kept_is_plan}
use Rattle.plan_search.proofs.text.plan_text.Goals as goal

pub schedule_of-requires : goal.schedule_of-requires
schedule_of-requires c = subst (LieBetween c.args.model.now) (sym c.deref.ensures.value) c.in-Ok.ensures.between

pub returns-in-Ok-schedule_of : goal.returns-in-Ok-schedule_of
returns-in-Ok-schedule_of c =
    IfOk-weaker c.schedule_text.result _ _
    (λ text is. schedule_is_plan c.dependences_have_one_schedule.ensures c.args.budget c.deref.result.now
    c.args.model.now c.in-Ok-schedule_of.schedule text.items (c.deref.ensures.value ∙ c.in-Ok.ensures.deps)
    c.in-Ok-schedule_of.ensures.found is)
    c.schedule_text.ensures.text

pub returns : goal.returns
returns c =
    IfOk-weaker c.line_text.result _ _
    (λ text told. kept_is_plan c.args.budget c.deref.result.now c.args.model.now c.in-Err-schedule_of.line text.items
    (c.deref.ensures.value ∙ c.in-Ok.ensures.deps) c.in-Err-schedule_of.ensures.kept told)
    c.line_text.ensures
