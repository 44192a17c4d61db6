use Rattle.whole_numbers.proofs.Common.{◌≡◌, ◌++◌, map, take, drop}
use Rattle.quast_trees.specs.Source.{source_of}
use Rattle.quast_trees.specs.Postfix.{named_node}
use Rattle.quast_trees.proofs.naming.name_nodes.Given as goal

abbrev pub invariant-loop-at : goal.invariant-loop-at
invariant-loop-at l =
    take l.at l.nodes ++ map (named_node (source_of l.statement l.loops)) (drop l.at l.nodes)
    ≡ map (named_node (source_of l.statement l.loops)) l.fn.nodes
