use Rattle.tile_core.proofs.Tiles.{size_is}
use Rattle.tile_core.proofs.plan.Plan.instances.Goals as goal

pub returns : goal.returns
returns c = size_is c.args.self.now.list.now.tiles.items c.args.tile c.tile.result.now c.tile.ensures
