use Rattle.planned_trees.proofs.Orders.{conflicts_in_order}
use Rattle.planned_trees.proofs.laws.trees_keep_conflicts_in_order.Goals as goal

pub returns : goal.returns
returns c = conflicts_in_order
