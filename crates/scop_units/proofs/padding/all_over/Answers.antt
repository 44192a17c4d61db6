use Rattle.scop_syntax.proofs.Common.{map_end, map_more}
use Rattle.scop_units.specs.Units.{declared_over}
use Rattle.scop_units.proofs.padding.all_over.Goals as goal

pub loop-array-preserved : goal.loop-array-preserved
loop-array-preserved c =
    map_more (declared_over c.args.count) c.args.arrays.now c.loop-array.array-index c.array-item.result
    c.in_ok-next.next c.loop-array.made.items c.push.new.self.items _ c.loop-array-test.true c.array-item.is
    c.in_ok-next.ensures c.in_ok-push.ensures.items c.loop-array.invariant

pub returns : goal.returns
returns c =
    map_end (declared_over c.args.count) c.args.arrays.now c.loop-array.array-index c.loop-array.made.items _
    c.loop-array-test.false c.loop-array.invariant
