use Rattle.tile_edges.proofs.Visits.{gets_tile}
use Rattle.tile_edges.proofs.touching.enter.Goals as goal

pub returns : goal.returns
returns c = gets_tile c.args.tile c.args.list.now.items c.push.new.self.items c.in_ok-push.ensures.items
