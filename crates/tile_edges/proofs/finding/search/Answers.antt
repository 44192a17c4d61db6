use Rattle.scop_syntax.proofs.Common.{◌∙◌, ◌<◌, ◌+◌, ◌-◌, ◌/◌, arith, length, sym}
use Rattle.tile_edges.proofs.FindingTiles.{got_at, halved_down, halved_up}
use Rattle.tile_edges.proofs.finding.search.Goals as goal

pub loop-high-preserved-then-is_before : goal.loop-high-preserved-then-is_before
loop-high-preserved-then-is_before c =
    let places = c.args.places.now in
    let place = c.args.place.now in
    let low = c.loop-high.low in
    let high = c.loop-high.high in
    let middle = low + (high - low) / 2 in
    let some = c.loop-high.invariant.some in
    let within = c.loop-high.invariant.within in
    let inside : middle < length places = omega (arith, some, within) in
    record {
      some = omega (arith, some);
      within = omega (arith, within, inside);
      around = λ t s. halved_down places place c.index-places-middle.result low high middle t
          (got_at places middle c.index-places-middle.result inside c.index-places-middle.is)
          (sym c.is_before.ensures ∙ c.if-is_before.true) s (c.loop-high.invariant.around t s);
    }

pub loop-high-preserved : goal.loop-high-preserved
loop-high-preserved c =
    let places = c.args.places.now in
    let place = c.args.place.now in
    let low = c.loop-high.low in
    let high = c.loop-high.high in
    let middle = low + (high - low) / 2 in
    let some = c.loop-high.invariant.some in
    let within = c.loop-high.invariant.within in
    let inside : middle < length places = omega (arith, some, within) in
    record {
      some = omega (arith, some);
      within = within;
      around = λ t s. halved_up places place c.index-places-middle.result low high middle t
          (got_at places middle c.index-places-middle.result inside c.index-places-middle.is)
          (sym c.is_before.ensures ∙ c.if-is_before.false) s (c.loop-high.invariant.around t s);
    }

pub returns : goal.returns
returns c t s = let around = c.loop-high.invariant.around t s in
    let low = around.0 in
    let high = around.1 in
    omega (arith, low, high)
