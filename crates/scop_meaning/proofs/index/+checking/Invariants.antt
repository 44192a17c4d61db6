use Rattle.scop_syntax.proofs.Common.{◌+◌, items_of, tree_of, weight, weight_all}
use Rattle.scop_syntax.specs.declared.limits.TheConstants.{MOST_ENTRIES}
use Rattle.scop_meaning.proofs.Checks.{ItemsChecked, TurnsChecked}
use Rattle.scop_meaning.proofs.index.+checking.Given as goal

abbrev pub decreases-outside_items : goal.decreases-outside_items
decreases-outside_items l = weight_all (items_of l.items.now) + 1

abbrev pub decreases-outside_item : goal.decreases-outside_item
decreases-outside_item l = weight (tree_of l.item.now)

abbrev pub decreases-outside_loop : goal.decreases-outside_loop
decreases-outside_loop l = weight_all (items_of l.body.now) + 3

abbrev pub decreases-outside_turn : goal.decreases-outside_turn
decreases-outside_turn l = weight_all (items_of l.body.now) + 2

abbrev pub invariant-outside_items-loop-item : goal.invariant-outside_items-loop-item
invariant-outside_items-loop-item l =
    ItemsChecked MOST_ENTRIES l.extents l.items l.item-index l.initial.number l.number l.fn.point.items l.point.items

abbrev pub invariant-outside_loop-loop-turn : goal.invariant-outside_loop-loop-turn
invariant-outside_loop-loop-turn l =
    TurnsChecked l.extents l.head (items_of l.body) l.turns l.turn l.number l.fn.point.items l.point.items
