use Rattle.dataflow.proofs.Common.{◌≡◌, ◌++◌, drop, flat_map, side_of, deps_of_leaf}
use Rattle.dataflow.proofs.covers.push_leaves.Given as goal

abbrev pub invariant-loop-path : goal.invariant-loop-path
invariant-loop-path l =
    l.out.items ++ flat_map (deps_of_leaf l.way l.model (side_of l.reader)) (drop l.path-index l.path-items)
    ≡ l.fn.out.items ++ flat_map (deps_of_leaf l.way l.model (side_of l.reader)) l.path-items
