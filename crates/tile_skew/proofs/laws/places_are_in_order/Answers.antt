use Rattle.tile_skew.proofs.PlaceOrder.{in_order_of}
use Rattle.tile_skew.proofs.laws.places_are_in_order.Goals as goal

pub returns : goal.returns
returns c bs size count n x y hx hy fx fy most = in_order_of bs size count n x y hx hy fx fy most
