use Rattle.tile_skew.proofs.TilingOrder.{along_in_order}
use Rattle.tile_skew.proofs.laws.pairs_along_blocks_are_in_order.Goals as goal

pub returns : goal.returns
returns c size count blocks i j x y positive first second sizes later along =
    along_in_order size count blocks i j x y positive first second sizes later along
