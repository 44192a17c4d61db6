use Rattle.whole_numbers.proofs.Common.{◌≡◌, suc, ◌+◌, ◌-◌, ap, arith, Ok, Err}
use Rattle.traced_projections.specs.Tracing.{Tracing}
use Rattle.traced_projections.proofs.Runs.{goes_more, goes_none, goes_stop}
use Rattle.traced_projections.proofs.alone.all_gone.Goals as goal

pub returns-in-Err : goal.returns-in-Err
returns-in-Err c =
    let n = c.args.times - c.loop-time.time in
    let m = c.args.times - (c.loop-time.time + 1) in
    let one : n ≡ suc m = omega arith in
    c.loop-time.invariant.goes (Err c.in-Err.stop)
    (goes_stop c.args.place n m c.loop-time.left c.in-Err.stop one c.in-Err.ensures.run)

pub loop-time-preserved : goal.loop-time-preserved
loop-time-preserved c =
    let n = c.args.times - c.loop-time.time in
    let m = c.args.times - (c.loop-time.time + 1) in
    let one : n ≡ suc m = omega arith in
    let l = c.loop-time.invariant.left in
    let d = ap (λ (t : Tracing). t.dimensions) c.in-Ok.ensures.run.1 in
    record {
      goes = λ r h. c.loop-time.invariant.goes r
          (goes_more c.args.place n m c.loop-time.left c.in-Ok.next r one c.in-Ok.ensures.run h);
      left = omega (arith, d, l);
    }

pub returns : goal.returns
returns c =
    let none : c.args.times - c.loop-time.time ≡ 0 = omega arith in
    c.loop-time.invariant.goes (Ok c.loop-time.left)
    (goes_none c.args.place (c.args.times - c.loop-time.time) c.loop-time.left none)
