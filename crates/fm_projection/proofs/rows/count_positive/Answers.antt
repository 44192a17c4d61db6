use Rattle.whole_numbers.proofs.Common.{arith, length, ints}
use Rattle.fractions.specs.Elimination.{is_positive, chosen}
use Rattle.fm_projection.proofs.Loops.{counts, skips, positive, not_positive}
use Rattle.fm_projection.proofs.rows.count_positive.Goals as goal
use Rattle.fm_projection.proofs.rows.count_positive.Goals.{then-coefficient-gt0, else-coefficient-gt0}

pub loop-row-preserved : goal.loop-row-preserved
loop-row-preserved c =
    let i = c.args.variable in
    let fs = c.args.rows.now in
    let a = c.coefficient.result in
    let all = length (chosen is_positive i fs) in
    elim c.if-coefficient-gt0.branch [
      | then-coefficient-gt0 w ↦ rw w.count-is (counts is_positive i c.loop-row.row-index fs c.row-item.result a
          c.loop-row-test.true c.row-item.is c.coefficient.ensures c.loop-row.count all
          (positive a (omega (arith, ints))) c.loop-row.invariant)
      | else-coefficient-gt0 w ↦ rw w.count-is (skips is_positive i c.loop-row.row-index fs c.row-item.result a
          c.loop-row-test.true c.row-item.is c.coefficient.ensures c.loop-row.count all
          (not_positive a (omega (arith, ints))) c.loop-row.invariant)
    ]
