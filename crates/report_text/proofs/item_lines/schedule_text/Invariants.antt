-- The text so far and the lines of the items to come are all lines, and the items' numbers so far fit their types.
use Rattle.scop_syntax.proofs.Common.{◌≡◌, ◌++◌, ◌≤◌, All, drop, length, take}
use Rattle.report_text.specs.ScheduleText.{IsNarrowItem}
use Rattle.report_text.specs.steps.ScheduleLines.{items_text}
use Rattle.report_text.proofs.item_lines.schedule_text.Given as goal

abbrev pub invariant-loop-at : goal.invariant-loop-at
invariant-loop-at l = record {
  within : l.count ≤ length l.schedule.bands;
  whole : l.text.items
      ++ items_text l.at l.count l.schedule.bands (drop l.at l.schedule.items) (drop l.at l.schedule.parallel)
      ≡ items_text 0 0 l.schedule.bands l.schedule.items l.schedule.parallel;
  narrow : All IsNarrowItem (take l.at l.schedule.items);
}
