use Rattle.scop_syntax.proofs.SameContents.{orders_end_alike}
use Rattle.scop_syntax.proofs.order_laws.orders_that_keep_conflicts_end_alike.Goals as goal

pub returns : goal.returns
returns c = orders_end_alike
