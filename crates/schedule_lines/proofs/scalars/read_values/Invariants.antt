-- The numbers so far, in front of what is still read, are all.
use Rattle.std.proofs.Common.{◌≡◌, ◌-◌}
use Rattle.schedule_lines.specs.Reading.{values_in}
use Rattle.schedule_lines.proofs.ReadLists.{joined}
use Rattle.schedule_lines.proofs.scalars.read_values.Given as goal

abbrev pub invariant-loop-at : goal.invariant-loop-at
invariant-loop-at l = joined l.found.items (values_in l.at (l.statements - l.at) l.rest) ≡ values_in 0 l.statements l.text
