use Rattle.scop_syntax.proofs.Common.{◌≡◌, ◌++◌, map}
use Rattle.schedule_rows.specs.Schedule.{row, item_of, marked_of}
use Rattle.schedule_rows.proofs.schedule.push_rows.Given as goal

abbrev pub invariant-loop-marked : goal.invariant-loop-marked
invariant-loop-marked l =
    goal.iterator-loop-marked.can_next l.marked-iterator × goal.iterator-loop-marked.is_finite l.marked-iterator
    × (map item_of l.items.items ++ map (λ m. row m.row) (map marked_of l.marked-iterator.rest.items)
    ≡ map item_of l.fn.items.items ++ map (λ m. row m.row) (map marked_of l.fn.rows.items))
    × (l.parallel.items ++ map (λ m. m.parallel) (map marked_of l.marked-iterator.rest.items)
    ≡ l.fn.parallel.items ++ map (λ m. m.parallel) (map marked_of l.fn.rows.items))
