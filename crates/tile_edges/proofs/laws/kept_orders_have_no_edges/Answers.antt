use Rattle.tile_edges.proofs.KeptOrders.{kept_told}
use Rattle.tile_edges.proofs.laws.kept_orders_have_no_edges.Goals as goal

pub returns : goal.returns
returns c = kept_told
