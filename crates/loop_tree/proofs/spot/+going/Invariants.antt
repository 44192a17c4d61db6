use Rattle.scop_syntax.proofs.Common.{◌≡◌, ◌+◌, ◌-◌, ◌∷◌, length, ◌-ℤ◌, ◌≤ℤ◌, most_turns}
use Rattle.loop_tree.specs.steps.Chain.{values_in}
use Rattle.loop_tree.specs.steps.Going.{CanGo, CanTurn, rest_from}
use Rattle.loop_tree.specs.steps.Passing.{IsSpent}
use Rattle.loop_tree.specs.Spot.{rest_of}
use Rattle.loop_tree.specs.SpotView.{marks_of}
use Rattle.loop_tree.specs.View.{nodes_of, tree_of}
use Rattle.loop_tree.proofs.Weights.{weight, weight_all}
use Rattle.loop_tree.proofs.spot.+going.Given as goal

abbrev pub decreases-next_of : goal.decreases-next_of
decreases-next_of l = weight_all (nodes_of l.nodes.now) + 2

abbrev pub decreases-next_from : goal.decreases-next_from
decreases-next_from l = weight_all (nodes_of l.nodes.now) + 1

abbrev pub decreases-next_in : goal.decreases-next_in
decreases-next_in l = weight (tree_of l.node.now)

abbrev pub decreases-next_loop : goal.decreases-next_loop
decreases-next_loop l = weight_all (nodes_of l.body.now) + 5

abbrev pub decreases-next_turn : goal.decreases-next_turn
decreases-next_turn l = weight_all (nodes_of l.body.now) + 4

abbrev pub decreases-next_within : goal.decreases-next_within
decreases-next_within l = weight_all (nodes_of l.body.now) + 3

abbrev pub invariant-next_from-loop-mark : goal.invariant-next_from-loop-mark
invariant-next_from-loop-mark l =
    CanGo (nodes_of l.nodes) (marks_of (l.mark ∷ l.deeper)) l.params (values_in l.outer)
    × (rest_of (nodes_of l.nodes) (marks_of (l.fn.mark ∷ l.fn.deeper)) l.params (values_in l.outer)
    ≡ rest_of (nodes_of l.nodes) (marks_of (l.mark ∷ l.deeper)) l.params (values_in l.outer))
    × (length l.deeper ≡ length l.fn.deeper) × IsSpent l.stretch l.braid

abbrev pub decreases-next_from-loop-mark : goal.decreases-next_from-loop-mark
decreases-next_from-loop-mark l = length l.nodes - l.mark.place

abbrev pub invariant-next_turn-loop-mark : goal.invariant-next_turn-loop-mark
invariant-next_turn-loop-mark l =
    CanTurn (nodes_of l.body) (marks_of l.deeper) l.mark.value l.mark.last l.params (values_in l.outer)
    × (l.fn.mark.value ≤ℤ l.mark.value)
    × (rest_from (nodes_of l.body) (marks_of l.fn.deeper) l.fn.mark.value l.fn.mark.last l.params (values_in l.outer)
    ≡ rest_from (nodes_of l.body) (marks_of l.deeper) l.mark.value l.mark.last l.params (values_in l.outer))
    × (length l.deeper ≡ length l.fn.deeper) × (l.mark.place ≡ l.fn.mark.place) × (l.mark.begun ≡ l.fn.mark.begun)
    × (l.mark.last ≡ l.fn.mark.last) × IsSpent l.stretch l.braid

abbrev pub decreases-next_turn-loop-mark : goal.decreases-next_turn-loop-mark
decreases-next_turn-loop-mark l = most_turns (l.mark.last -ℤ l.mark.value)
