use Rattle.scop_syntax.proofs.Common.{◌+◌, items_of, tree_of, weight, weight_all}
use Rattle.iteration_domains.specs.Path.{path_of}
use Rattle.iteration_domains.proofs.TreeStatements.{Modelling}
use Rattle.iteration_domains.proofs.items.+modelling.Given as goal

abbrev pub decreases-model_items : goal.decreases-model_items
decreases-model_items l = weight_all (items_of l.items.now) + 1

abbrev pub decreases-model_item : goal.decreases-model_item
decreases-model_item l = weight (tree_of l.item.now)

abbrev pub decreases-model_loop : goal.decreases-model_loop
decreases-model_loop l = weight_all (items_of l.body.now) + 3

abbrev pub decreases-model_guard : goal.decreases-model_guard
decreases-model_guard l = weight_all (items_of l.body.now) + 3

abbrev pub invariant-model_items-loop-item : goal.invariant-model_items-loop-item
invariant-model_items-loop-item l =
    Modelling (path_of l.fn.path) (path_of l.path) l.items l.item-index l.fn.statements.items l.statements.items
