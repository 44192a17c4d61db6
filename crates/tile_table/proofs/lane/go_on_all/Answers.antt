use Rattle.scop_syntax.proofs.Common.{◌<◌, arith, length, slice_get-get_or, slice_get_within}
use Rattle.tile_table.proofs.Lanes.{lane_on}
use Rattle.tile_table.proofs.lane.go_on_all.Goals as goal

pub loop-at-init : goal.loop-at-init
loop-at-init c = λ forms steps turns are. record {
  done = λ a form lane less told at. absurd (omega (arith, less));
  left = λ a form lane more told at. are.each a form lane told at;
}

pub loop-at-preserved : goal.loop-at-preserved
loop-at-preserved c = λ forms steps turns are.
    let lanes = c.loop-at.lanes in
    let at = c.loop-at.at in
    let less : at < length lanes = omega (arith, c.requires, c.loop-at-test.true, c.loop-at.auto.lanes) in
    lane_on at forms steps turns lanes _ c.go_on.new.self (slice_get-get_or lanes at _ less)
    (λ form is. c.go_on.ensures form steps turns is) (c.loop-at.invariant forms steps turns are)

pub returns : goal.returns
returns c = λ forms steps turns long are.
    let ended = c.loop-at-test.false in
    let on = c.loop-at.invariant forms steps turns are in
    record {
      each = λ a form lane told at.
          let within = slice_get_within forms a form told in
          on.done a form lane (omega (arith, ended, within, long)) told at;
    }
