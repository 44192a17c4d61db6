use Rattle.scop_syntax.proofs.Common.{ap, arith, length, length_push}
use Rattle.loop_tree.specs.TilingView.{tiling_of}
use Rattle.tile_edges.proofs.FindingTiles.{got_at, places_more}
use Rattle.tile_edges.proofs.finding.places_of.Goals as goal

pub of-requires : goal.of-requires
of-requires c =
    c.requires c.loop-tile.tile-index c.tile-item.result
    (got_at c.args.tiles.now c.loop-tile.tile-index c.tile-item.result (omega arith) c.tile-item.is)

pub loop-tile-preserved : goal.loop-tile-preserved
loop-tile-preserved c =
    let count = c.loop-tile.invariant.count in
    let grown = ap length c.in_ok-push.ensures.items in
    let more = length_push c.loop-tile.places.items c.in_ok-place.place in
    record {
      count = omega (arith, count, grown, more);
      each = places_more (tiling_of c.args.tiling.now) c.args.tiles.now c.loop-tile.places.items c.push.new.self.items
          c.loop-tile.tile-index c.tile-item.result c.in_ok-place.place count c.tile-item.is c.loop-tile.invariant.each
          c.in_ok-place.ensures
          c.in_ok-push.ensures.items;
    }
