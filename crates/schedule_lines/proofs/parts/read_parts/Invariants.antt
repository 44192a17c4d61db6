-- The parts so far, in front of what is still read, are all.
use Rattle.std.proofs.Common.{◌≡◌, map, drop}
use Rattle.schedule_lines.specs.Reading.{parts_in}
use Rattle.schedule_lines.specs.View.{part_view}
use Rattle.schedule_lines.proofs.ReadLists.{joined}
use Rattle.schedule_lines.proofs.parts.read_parts.Given as goal

abbrev pub invariant-loop-at : goal.invariant-loop-at
invariant-loop-at l = joined (map part_view l.found.items) (parts_in l.at (drop l.at l.loops) l.rest)
    ≡ parts_in 0 l.loops l.text
