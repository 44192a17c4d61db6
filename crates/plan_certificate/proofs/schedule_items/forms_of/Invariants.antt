-- The forms so far and those of the parts to come are all forms.
use Rattle.scop_syntax.proofs.Common.{◌≡◌, ◌++◌, drop, map}
use Rattle.report_text.specs.steps.ScheduleLines.{part_view}
use Rattle.plan_certificate.specs.SchedulePlan.{form_of_part}
use Rattle.plan_certificate.proofs.schedule_items.forms_of.Given as goal

abbrev pub invariant-loop-part : goal.invariant-loop-part
invariant-loop-part l =
    l.forms.items ++ map form_of_part (map part_view (drop l.part-index l.parts))
    ≡ map form_of_part (map part_view l.parts)
