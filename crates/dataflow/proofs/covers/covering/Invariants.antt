use Rattle.dataflow.proofs.Common.{◌≡◌, ◌++◌, drop, flat_map, sides_of, covers_at}
use Rattle.dataflow.proofs.covers.covering.Given as goal

abbrev pub invariant-loop-statement : goal.invariant-loop-statement
invariant-loop-statement l =
    l.deps.items ++ flat_map (covers_at l.budget l.marked l.model)
    (flat_map sides_of (drop l.statement-index l.statement-items))
    ≡ flat_map (covers_at l.budget l.marked l.model) (flat_map sides_of l.statement-items)
