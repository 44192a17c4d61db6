use Rattle.scop_syntax.proofs.Common.{◌≡◌, ◌++◌, map, drop}
use Rattle.schedule_rows.specs.Schedule.{item_of}
use Rattle.tile_skew.specs.steps.Listed.{leading_in}
use Rattle.tile_skew.proofs.items.leading.Given as goal

abbrev pub invariant-loop-item : goal.invariant-loop-item
invariant-loop-item l =
    l.found.items ++ leading_in (map item_of (drop l.item-index l.items)) l.k ≡ leading_in (map item_of l.items) l.k
