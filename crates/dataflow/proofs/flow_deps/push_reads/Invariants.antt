use Rattle.dataflow.proofs.Common.{◌≡◌, ◌+◌, ◌++◌, drop, map, sides_from, flow_from, read_sides, tree_in}
use Rattle.dataflow.proofs.flow_deps.push_reads.Given as goal

abbrev pub invariant-loop-index : goal.invariant-loop-index
invariant-loop-index l =
    l.out.items
    ++ flow_from l.model (sides_from l.statement (l.index + 1) (drop (l.index + 1) l.accesses))
    (map tree_in (drop l.index l.sources))
    ≡ l.fn.out.items ++ flow_from l.model (read_sides l.statement) (map tree_in l.sources)
