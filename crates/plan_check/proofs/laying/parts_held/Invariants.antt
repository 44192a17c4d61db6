use Rattle.scop_syntax.proofs.Common.{◌≡◌, drop, map, list_all}
use Rattle.schedule_lines.specs.View.{part_view}
use Rattle.plan_check.specs.Judged.{part_held}
use Rattle.plan_check.proofs.laying.parts_held.Given as goal

abbrev pub invariant-loop-part : goal.invariant-loop-part
invariant-loop-part l =
    list_all part_held (map part_view (drop l.part-index l.parts)) ≡ list_all part_held (map part_view l.parts)
