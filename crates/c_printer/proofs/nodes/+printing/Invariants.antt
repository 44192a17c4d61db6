-- What is put so far, and the nodes to come, are all of them; a call goes over fewer nodes.
use Rattle.scop_syntax.proofs.Common.{◌≡◌, ◌+◌, ◌++◌, drop, program_of}
use Rattle.loop_tree.specs.View.{nodes_of, tree_of}
use Rattle.c_printer.specs.Nodes.{nodes_text}
use Rattle.loop_tree.proofs.Weights.{weight, weight_all}
use Rattle.c_printer.proofs.nodes.+printing.Given as goal

abbrev pub decreases-put_nodes : goal.decreases-put_nodes
decreases-put_nodes l = weight_all (nodes_of l.nodes.now) + 1

abbrev pub decreases-put_node : goal.decreases-put_node
decreases-put_node l = weight (tree_of l.node.now)

abbrev pub decreases-put_body : goal.decreases-put_body
decreases-put_body l = weight_all (nodes_of l.body.now) + 3

abbrev pub invariant-put_nodes-loop-node : goal.invariant-put_nodes-loop-node
invariant-put_nodes-loop-node l = l.out.items
    ++ nodes_text (program_of l.place.source.now) l.place.level l.place.loops (nodes_of (drop l.node-index l.nodes))
    ≡ l.fn.out.items ++ nodes_text (program_of l.place.source.now) l.place.level l.place.loops (nodes_of l.nodes)
