-- What was appended so far and the numbers to come are all numbers, and those so far fit their type.
use Rattle.scop_syntax.proofs.Common.{◌≡◌, ◌++◌, drop, take}
use Rattle.report_text.specs.ScheduleText.{AreNarrow, numbers_from}
use Rattle.report_text.proofs.pieces.push_numbers.Given as goal

abbrev pub invariant-loop-at : goal.invariant-loop-at
invariant-loop-at l = record {
  text : l.out.items ++ numbers_from l.at (drop l.at l.numbers) ≡ l.fn.out.items ++ numbers_from 0 l.numbers;
  narrow : AreNarrow (take l.at l.numbers);
}
