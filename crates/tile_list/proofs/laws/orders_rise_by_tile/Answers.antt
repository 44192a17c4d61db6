use Rattle.tile_list.proofs.RisingTiles.{rising}
use Rattle.tile_list.proofs.laws.orders_rise_by_tile.Goals as goal

pub returns : goal.returns
returns c = rising
