-- What was appended so far and the statements to come are all statements.
use Rattle.scop_syntax.proofs.Common.{◌≡◌, ◌++◌, drop, map}
use Rattle.report_text.specs.ScheduleText.{statements_from}
use Rattle.report_text.specs.steps.ScheduleLines.{part_view}
use Rattle.report_text.proofs.item_lines.push_statements.Given as goal

abbrev pub invariant-loop-at : goal.invariant-loop-at
invariant-loop-at l =
    l.out.items ++ statements_from l.at (map part_view (drop l.at l.parts))
    ≡ l.fn.out.items ++ statements_from 0 (map part_view l.parts)
