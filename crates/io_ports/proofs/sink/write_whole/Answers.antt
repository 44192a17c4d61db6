-- One write takes the place on; a failed one leaves the front that was taken.
use Rattle.std.proofs.Common.{◌-◌, length, drop, arith, length-drop, take_all}
use Rattle.io_ports.proofs.PutTexts.{take_next, take_stopped}
use Rattle.io_ports.proofs.sink.write_whole.Goals as goal

pub returns-in-Err : goal.returns-in-Err
returns-in-Err g c =
    let text = c.args.text.now in
    let rest = take_all (length text - c.loop-at.at) (drop c.loop-at.at text)
    (omega (arith, length-drop c.loop-at.at text)) in
    let failed = rw rest at c.in-Err.ensures.failed in
    take_stopped _ _ _ c.loop-at.at text c.loop-at.invariant.taken failed

pub loop-at-preserved : goal.loop-at-preserved
loop-at-preserved g c =
    let text = c.args.text.now in
    let rest = take_all (length text - c.loop-at.at) (drop c.loop-at.at text)
    (omega (arith, length-drop c.loop-at.at text)) in
    let bound = rw rest at c.in-Ok.ensures.bound in
    let taken = rw rest at c.in-Ok.ensures.taken in
    record {
      within = omega (arith, length-drop c.loop-at.at text, bound);
      taken = take_next _ _ _ c.loop-at.at c.in-Ok.count text c.loop-at.invariant.taken taken;
    }
