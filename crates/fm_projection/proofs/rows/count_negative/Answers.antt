use Rattle.whole_numbers.proofs.Common.{arith, length, ints}
use Rattle.fractions.specs.Elimination.{is_negative, chosen}
use Rattle.fm_projection.proofs.Loops.{counts, skips, negative, not_negative}
use Rattle.fm_projection.proofs.rows.count_negative.Goals as goal
use Rattle.fm_projection.proofs.rows.count_negative.Goals.{then-coefficient-lt0, else-coefficient-lt0}

pub loop-row-preserved : goal.loop-row-preserved
loop-row-preserved c =
    let i = c.args.variable in
    let fs = c.args.rows.now in
    let a = c.coefficient.result in
    let all = length (chosen is_negative i fs) in
    elim c.if-coefficient-lt0.branch [
      | then-coefficient-lt0 w ↦ rw w.count-is (counts is_negative i c.loop-row.row-index fs c.row-item.result a
          c.loop-row-test.true c.row-item.is c.coefficient.ensures c.loop-row.count all
          (negative a (omega (arith, ints))) c.loop-row.invariant)
      | else-coefficient-lt0 w ↦ rw w.count-is (skips is_negative i c.loop-row.row-index fs c.row-item.result a
          c.loop-row-test.true c.row-item.is c.coefficient.ensures c.loop-row.count all
          (not_negative a (omega (arith, ints))) c.loop-row.invariant)
    ]
