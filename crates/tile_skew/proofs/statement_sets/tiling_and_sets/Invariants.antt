use Rattle.scop_syntax.proofs.Common.{◌≡◌, ◌-◌, ◌++◌, length, map, drop, pos}
use Rattle.loop_tree.specs.TilingView.{items_of}
use Rattle.schedule_rows.specs.Schedule.{IsScheduled}
use Rattle.tile_skew.specs.ScanSets.{scan_set, scan_sets, most_iterators}
use Rattle.tile_skew.specs.Tilings.{statement_items, statements_from}
use Rattle.tile_skew.proofs.statement_sets.tiling_and_sets.Given as goal

abbrev pub invariant-loop-k : goal.invariant-loop-k
invariant-loop-k l =
    ((s : IsScheduled l.schedule)
    → map items_of l.tiles.items ++ statements_from s.blocks l.k (length l.schedule.model.statements - l.k)
    ≡ statements_from s.blocks 0 (length l.schedule.model.statements))
    × ((s : IsScheduled l.schedule)
    → l.sets.items ++ map (λ m. scan_set (pos l.size) (most_iterators l.schedule.model.statements) m
    (statement_items s.blocks m.number)) (drop l.k l.schedule.model.statements)
    ≡ scan_sets (pos l.size) s.blocks l.schedule.model)
