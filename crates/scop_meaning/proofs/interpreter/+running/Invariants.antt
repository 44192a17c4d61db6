use Rattle.scop_syntax.proofs.Common.{◌+◌, items_of, tree_of, weight, weight_all}
use Rattle.scop_syntax.specs.declared.limits.TheConstants.{MOST_ENTRIES}
use Rattle.scop_meaning.proofs.Runs.{ItemsSoFar, TurnsSoFar}
use Rattle.scop_meaning.proofs.interpreter.+running.Given as goal

abbrev pub decreases-run_items : goal.decreases-run_items
decreases-run_items l = weight_all (items_of l.items.now) + 1

abbrev pub decreases-run_item : goal.decreases-run_item
decreases-run_item l = weight (tree_of l.item.now)

abbrev pub decreases-run_loop : goal.decreases-run_loop
decreases-run_loop l = weight_all (items_of l.body.now) + 3

abbrev pub decreases-run_turn : goal.decreases-run_turn
decreases-run_turn l = weight_all (items_of l.body.now) + 2

abbrev pub invariant-run_items-loop-item : goal.invariant-run_items-loop-item
invariant-run_items-loop-item l =
    ItemsSoFar MOST_ENTRIES l.layout l.items l.item-index l.fn.point.items l.point.items l.fn.arrays l.arrays

abbrev pub invariant-run_loop-loop-turn : goal.invariant-run_loop-loop-turn
invariant-run_loop-loop-turn l =
    TurnsSoFar l.layout l.head (items_of l.body) l.turns l.turn l.fn.point.items l.point.items l.fn.arrays l.arrays
