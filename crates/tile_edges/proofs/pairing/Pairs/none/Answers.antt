use Rattle.scop_syntax.proofs.Common.{arith, ap, inl, length, sym, length_push}
use Rattle.tile_edges.proofs.PutPairs.{indices_more, none_more}
use Rattle.tile_edges.proofs.pairing.Pairs.none.Goals as goal

pub loop-tile-preserved : goal.loop-tile-preserved
loop-tile-preserved c =
    let long = c.loop-tile.invariant.long in
    let pushed = c.in_ok-push.ensures.items in
    let grown = ap length pushed in
    let more = length_push c.loop-tile.rows.items c.no_tiles.result in
    let even = c.loop-tile.invariant.even in
    let pushed_then = c.in_ok-push-2.ensures.items in
    let grown_then = ap length pushed_then in
    let more_then = length_push c.loop-tile.told.items c.loop-tile.tile in
    record {
      long = omega (arith, long, grown, more);
      none = none_more (λ s. s.keys) c.loop-tile.rows.items c.push.new.self.items c.no_tiles.result
          c.loop-tile.invariant.none c.no_tiles.ensures pushed;
      even = omega (arith, even, grown_then, more_then);
      told = indices_more c.loop-tile.told.items c.push-in-loop-tile.new.self.items c.loop-tile.tile even c.loop-tile.invariant.told
          pushed_then;
    }

pub returns-clause-kept : goal.returns-clause-kept
returns-clause-kept c =
    let long = c.loop-tile.invariant.long in
    let even = c.loop-tile.invariant.even in
    record {
      count = sym (ap length c.loop-tile.invariant.none);
      long = omega (arith, long, even);
      told = λ t. inl (c.loop-tile.invariant.told t);
    }
