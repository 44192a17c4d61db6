-- What was appended so far and the numbers to come are all numbers.
use Rattle.scop_syntax.proofs.Common.{◌≡◌, ◌++◌, drop}
use Rattle.report_text.specs.ScheduleText.{components_from}
use Rattle.report_text.proofs.item_lines.push_components.Given as goal

abbrev pub invariant-loop-at : goal.invariant-loop-at
invariant-loop-at l =
    l.out.items ++ components_from l.at (drop l.at l.numbers) ≡ l.fn.out.items ++ components_from 0 l.numbers
