use Rattle.scop_syntax.proofs.Common.{◌≡◌, ◌++◌, length, drop, map, take, pos, ◌+ℤ◌}
use Rattle.loop_tree.specs.steps.Chain.{values_in}
use Rattle.loop_tree.specs.steps.Passing.{AreLeaves}
use Rattle.loop_tree.specs.Stretches.{left_of}
use Rattle.loop_tree.specs.View.{nodes_of}
use Rattle.loop_tree.proofs.Braids.{strands_of}
use Rattle.loop_tree.proofs.passing.braid_behind.Given as goal

abbrev pub invariant-loop-node : goal.invariant-loop-node
invariant-loop-node l =
    (l.count ≡ l.node-index)
    × (length l.strands ≡ 4)
    × (map left_of (take l.count l.strands)
    ++ strands_of (nodes_of (drop l.node-index l.nodes)) l.params (values_in l.outer) (l.value +ℤ pos 1) l.left
    ≡ strands_of (nodes_of l.nodes) l.params (values_in l.outer) (l.value +ℤ pos 1) l.left)
    × (AreLeaves (nodes_of (drop l.node-index l.nodes)) → AreLeaves (nodes_of l.nodes))
