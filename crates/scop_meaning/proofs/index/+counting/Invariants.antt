use Rattle.scop_syntax.proofs.Common.{◌≡◌, ◌+◌, drop, items_of, tree_of, statements_in_all, weight, weight_all}
use Rattle.scop_meaning.proofs.index.+counting.Given as goal

abbrev pub decreases-count_all : goal.decreases-count_all
decreases-count_all l = weight_all (items_of l.items.now) + 1

abbrev pub decreases-count_in : goal.decreases-count_in
decreases-count_in l = weight (tree_of l.item.now)

abbrev pub invariant-count_all-loop-item : goal.invariant-count_all-loop-item
invariant-count_all-loop-item l =
    l.count + statements_in_all (items_of (drop l.item-index l.items)) ≡ statements_in_all (items_of l.items)
