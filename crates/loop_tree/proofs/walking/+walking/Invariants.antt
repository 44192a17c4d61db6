use Rattle.scop_syntax.proofs.Common.{◌≡◌, ◌+◌, drop, ◌-ℤ◌, ◌≤ℤ◌, most_turns}
use Rattle.loop_tree.specs.steps.Chain.{values_in}
use Rattle.loop_tree.specs.Conditions.{CanWalk}
use Rattle.loop_tree.specs.View.{nodes_of, tree_of}
use Rattle.loop_tree.proofs.WalkSteps.{SoFar, shown_by, turns_shown}
use Rattle.loop_tree.proofs.Weights.{weight, weight_all}
use Rattle.loop_tree.proofs.walking.+walking.Given as goal

abbrev pub decreases-walk_nodes : goal.decreases-walk_nodes
decreases-walk_nodes g l = weight_all (nodes_of l.nodes.now) + 1

abbrev pub decreases-walk_node : goal.decreases-walk_node
decreases-walk_node g l = weight (tree_of l.node.now)

abbrev pub decreases-walk_loop : goal.decreases-walk_loop
decreases-walk_loop g l = weight_all (nodes_of l.body.now) + 5

abbrev pub decreases-walk_values : goal.decreases-walk_values
decreases-walk_values g l = weight_all (nodes_of l.body.now) + 4

abbrev pub decreases-walk_each : goal.decreases-walk_each
decreases-walk_each g l = weight_all (nodes_of l.body.now) + 3

abbrev pub decreases-walk_turn : goal.decreases-walk_turn
decreases-walk_turn g l = weight_all (nodes_of l.body.now) + 2

abbrev pub invariant-walk_nodes-loop-node : goal.invariant-walk_nodes-loop-node
invariant-walk_nodes-loop-node g l =
    CanWalk (nodes_of (drop l.node-index l.nodes)) l.params (values_in l.outer)
    × (l.place ≡ l.node-index)
    × SoFar (g.V.Visitor.stands l.fn.visitor) (g.V.Visitor.stands l.visitor)
    (shown_by (drop l.node-index l.nodes) l.params (values_in l.outer))
    (shown_by l.nodes l.params (values_in l.outer))

abbrev pub invariant-walk_each-loop-value : goal.invariant-walk_each-loop-value
invariant-walk_each-loop-value g l =
    (l.first ≤ℤ l.value)
    × SoFar (g.V.Visitor.stands l.fn.visitor) (g.V.Visitor.stands l.visitor)
    (turns_shown (nodes_of l.body) l.params (values_in l.outer) l.value l.last)
    (turns_shown (nodes_of l.body) l.params (values_in l.outer) l.first l.last)

abbrev pub decreases-walk_each-loop-value : goal.decreases-walk_each-loop-value
decreases-walk_each-loop-value g l = most_turns (l.last -ℤ l.value)
