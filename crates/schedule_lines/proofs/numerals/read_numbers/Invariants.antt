-- The numbers so far, in front of what is still read, are all.
use Rattle.std.proofs.Common.{◌≡◌, ◌-◌, length}
use Rattle.schedule_lines.specs.Reading.{numbers_in}
use Rattle.schedule_lines.proofs.ReadLists.{joined}
use Rattle.schedule_lines.proofs.numerals.read_numbers.Given as goal

abbrev pub invariant-loop-at : goal.invariant-loop-at
invariant-loop-at l = joined l.found.items (numbers_in (length l.text - l.at) l.at l.rest)
    ≡ numbers_in (length l.text) 0 l.text
