use Rattle.tile_list.proofs.LeftLoops.{marks_alike}
use Rattle.tile_list.proofs.cutting.Scout.of.Goals as goal

pub returns : goal.returns
returns c = marks_alike c.in_ok-spot.spot c.args.spot.now c.in_ok-spot.ensures
