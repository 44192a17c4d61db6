use Rattle.dataflow.proofs.Common.{◌≡◌, drop, leaf_limit, nodes_fit}
use Rattle.dataflow.proofs.candidate.nodes_fit.Given as goal

abbrev pub invariant-loop-node : goal.invariant-loop-node
invariant-loop-node l = nodes_fit leaf_limit (drop l.node-index l.nodes) ≡ nodes_fit leaf_limit l.nodes
