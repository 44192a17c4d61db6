use Rattle.scop_units.proofs.Parts.{extents_step}
use Rattle.scop_units.proofs.units.extent_fault.Goals as goal

pub loop-extent-preserved : goal.loop-extent-preserved
loop-extent-preserved c =
    let first = c.first_of-first.ensures in
    let step = extents_step c.args.entries c.loop-extent.extent-index c.args.extents.now c.extent-item.result
    c.loop-extent.first _ c.in_ok-fault.field-0 c.loop-extent-test.true c.extent-item.is c.in_ok-fault.ensures
    c.loop-extent.invariant in
    rw first step
