use Rattle.scop_syntax.proofs.Common.{◌≡◌, ◌+◌, drop, map}
use Rattle.schedule_rows.specs.Outcomes.{items_in}
use Rattle.schedule_rows.specs.Schedule.{block_of}
use Rattle.pluto_search.proofs.ends.items_in.Given as goal

abbrev pub invariant-loop-at : goal.invariant-loop-at
invariant-loop-at l = l.count + items_in (map block_of (drop l.at l.blocks)) ≡ items_in (map block_of l.blocks)
