use Rattle.scop_syntax.proofs.Common.{arith, subst, sym, slice_get_within}
use Rattle.loop_tree.specs.TilingView.{tiling_of}
use Rattle.tile_list.specs.Tiles.{RowsFit}
use Rattle.tile_list.specs.Stretches.{instance_at}
use Rattle.tile_list.proofs.Stretches.{at_left, held_at, sized}
use Rattle.tile_edges.proofs.Ahead.{tile_ahead}
use Rattle.tile_edges.proofs.finding.Finder.ahead.Goals as goal

pub returns-then-count-eq0-clause-tile : goal.returns-then-count-eq0-clause-tile
returns-then-count-eq0-clause-tile c j low high = absurd (omega (arith, low, high))

pub after-last-requires : goal.after-last-requires
after-last-requires c =
    held_at c.args.stretch.now c.likely_ahead-count.result (omega (arith, c.if-count-eq0.false)) c.likely_ahead-count.ensures c.requires.held

pub set-requires : goal.set-requires
set-requires c =
    let s = c.args.stretch.now in
    let n = c.likely_ahead-count.result in
    subst (RowsFit (tiling_of c.args.tiling.now)) (sym c.after-last.ensures.instance)
    (c.requires.fits (instance_at s n) (at_left s n (omega (arith, c.if-count-eq0.false)) c.likely_ahead-count.ensures))

pub index-requires : goal.index-requires
index-requires c =
    let less = slice_get_within c.args.list.now.tiles.items c.args.self.now.at c.requires.front.tile c.requires.front.is in
    let count = c.requires.finder.places.count in
    omega (arith, less, count)

pub returns-then-is-clause-tile : goal.returns-then-is-clause-tile
returns-then-is-clause-tile c =
    tile_ahead (tiling_of c.args.tiling.now) c.args.list.now c.args.self.now c.args.stretch.now c.likely_ahead-count.result
    c.after-last.result c.set.new.self c.index.result.now (sized c.args.tiling.now) c.requires.finder c.requires.front
    c.after-last.ensures.instance c.in_ok-set.ensures c.index.ensures (c.is.ensures.wave c.if-is.true)
    (c.is.ensures.tile c.if-is.true)

pub returns-clause-tile : goal.returns-clause-tile
returns-clause-tile c j low high = absurd (omega (arith, low, high))
