use Rattle.scop_syntax.proofs.CoverOrders.{conflicts_are_kept}
use Rattle.scop_syntax.proofs.order_laws.orders_that_keep_covers_keep_conflicts.Goals as goal

pub returns : goal.returns
returns c visits order =
    conflicts_are_kept visits order (c.conflicts_are_chains_of_covers.ensures.closure visits)
