use Rattle.dataflow.proofs.Common.{◌≡◌, ◌++◌, drop, flat_map, sides_from, covers_at}
use Rattle.dataflow.proofs.covers.push_statement.Given as goal

abbrev pub invariant-loop-number : goal.invariant-loop-number
invariant-loop-number l =
    l.out.items ++ flat_map (covers_at l.budget l.marked l.model)
    (sides_from l.statement l.number (drop l.number l.accesses))
    ≡ l.fn.out.items ++ flat_map (covers_at l.budget l.marked l.model) (sides_from l.statement 0 l.accesses)
