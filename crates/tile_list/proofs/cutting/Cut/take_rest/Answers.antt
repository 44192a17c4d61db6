use Rattle.scop_syntax.proofs.Common.{in_back, in_front}
use Rattle.loop_tree.specs.Braids.{left_of_braid}
use Rattle.loop_tree.specs.Stretches.{left_of}
use Rattle.tile_list.proofs.cutting.Cut.take_rest.Goals as goal

pub take_stretch-requires-clause-fits : goal.take_stretch-requires-clause-fits
take_stretch-requires-clause-fits c x h =
    let spot = c.args.spot.now in
    c.requires.fits x (in_front x (left_of spot.stretch) (left_of_braid spot.braid) h)

pub take_braid-requires-clause-fits : goal.take_braid-requires-clause-fits
take_braid-requires-clause-fits c x h =
    let spot = c.args.spot.now in
    c.requires.fits x (in_back x (left_of spot.stretch) (left_of_braid spot.braid) h)
