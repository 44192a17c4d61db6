use Rattle.tile_skew.proofs.TilingOrder.{schedule_in_order}
use Rattle.tile_skew.proofs.laws.tiled_dependences_are_in_order.Goals as goal

pub returns : goal.returns
returns c m loops deps blocks size i j positive sized schedule d params x y among count relates later =
    schedule_in_order m loops deps blocks size i j positive sized schedule d params x y among count relates later
