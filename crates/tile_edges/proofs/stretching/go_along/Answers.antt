use Rattle.tile_list.proofs.Stretches.{held_at}
use Rattle.tile_edges.proofs.Ahead.{went_along}
use Rattle.tile_edges.proofs.stretching.go_along.Goals as goal

pub after-stretch-requires : goal.after-stretch-requires
after-stretch-requires c = held_at c.args.stretch.now c.args.count c.requires.some c.requires.few c.requires.held

pub returns : goal.returns
returns c =
    went_along c.args.stretch.now c.after-stretch.result c.args.count c.requires.some c.after-stretch.ensures.instance
    c.after-stretch.ensures.loops
