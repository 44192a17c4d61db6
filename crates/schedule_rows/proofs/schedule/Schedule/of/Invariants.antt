use Rattle.scop_syntax.proofs.Common.{◌≡◌, ◌++◌, map, length}
use Rattle.schedule_rows.specs.Schedule.{item_of, block_of, items_of, bands_from, marks_of}
use Rattle.schedule_rows.proofs.schedule.Schedule.of.Given as goal

abbrev pub invariant-loop-block : goal.invariant-loop-block
invariant-loop-block l =
    goal.iterator-loop-block.can_next l.block-iterator × goal.iterator-loop-block.is_finite l.block-iterator
    × (map item_of l.items.items ++ items_of (map block_of l.block-iterator.rest.items)
    ≡ items_of (map block_of l.fn.blocks.items))
    × (l.bands.items ++ bands_from (length l.items.items) (map block_of l.block-iterator.rest.items)
    ≡ bands_from 0 (map block_of l.fn.blocks.items))
    × (l.parallel.items ++ marks_of (map block_of l.block-iterator.rest.items)
    ≡ marks_of (map block_of l.fn.blocks.items))
