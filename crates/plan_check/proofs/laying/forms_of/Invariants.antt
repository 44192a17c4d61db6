use Rattle.scop_syntax.proofs.Common.{◌≡◌, ◌++◌, drop, map}
use Rattle.schedule_lines.specs.View.{part_view}
use Rattle.plan_check.specs.Judged.{form_of_part}
use Rattle.plan_check.proofs.laying.forms_of.Given as goal

abbrev pub invariant-loop-part : goal.invariant-loop-part
invariant-loop-part l =
    l.found.items ++ map form_of_part (map part_view (drop l.part-index l.parts))
    ≡ map form_of_part (map part_view l.parts)
