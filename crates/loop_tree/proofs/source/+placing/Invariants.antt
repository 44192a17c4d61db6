use Rattle.scop_syntax.proofs.Common.{◌+◌, items_of, tree_of, weight, weight_all}
use Rattle.iteration_domains.specs.Path.{path_of}
use Rattle.loop_tree.proofs.Placings.{Placing}
use Rattle.loop_tree.proofs.source.+placing.Given as goal

abbrev pub decreases-place_items : goal.decreases-place_items
decreases-place_items l = weight_all (items_of l.items.now) + 1

abbrev pub decreases-place_item : goal.decreases-place_item
decreases-place_item l = weight (tree_of l.item.now)

abbrev pub decreases-place_loop : goal.decreases-place_loop
decreases-place_loop l = weight_all (items_of l.body.now) + 3

abbrev pub decreases-place_guard : goal.decreases-place_guard
decreases-place_guard l = weight_all (items_of l.body.now) + 3

abbrev pub invariant-place_items-loop-item : goal.invariant-place_items-loop-item
invariant-place_items-loop-item l =
    Placing (path_of l.fn.path) (path_of l.path) l.items l.item-index l.fn.counted l.counted l.nodes.items
