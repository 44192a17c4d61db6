use Rattle.scop_syntax.proofs.Common.{◌≡◌, ◌++◌, map, drop}
use Rattle.loop_tree.specs.TilingView.{item_of as tile_item_of}
use Rattle.schedule_rows.specs.Schedule.{item_of}
use Rattle.tile_skew.specs.steps.Listed.{item_at}
use Rattle.tile_skew.proofs.items.tile_items.Given as goal

abbrev pub invariant-loop-at : goal.invariant-loop-at
invariant-loop-at l =
    map tile_item_of l.found.items ++ map (item_at l.k) (drop l.at (map item_of l.items))
    ≡ map (item_at l.k) (drop l.first (map item_of l.items))
