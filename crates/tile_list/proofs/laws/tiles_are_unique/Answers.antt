use Rattle.tile_list.proofs.UniqueTiles.{tiles_unique}
use Rattle.tile_list.proofs.laws.tiles_are_unique.Goals as goal

pub returns : goal.returns
returns c = tiles_unique
