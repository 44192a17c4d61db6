use Rattle.whole_numbers.proofs.Common.{◌∙◌, sym, drop, ◌∷◌, ◌+◌, arith, ints}
use Rattle.std.proofs.Math.ListN.{drop_of_length-le}
use Rattle.fractions.specs.Elimination.{is_positive, is_negative, chosen}
use Rattle.fm_projection.specs.Runs.{pairs_run}
use Rattle.fm_projection.proofs.Loops.{passes, stays, paired, stops, ends, pairs_stop, positive, not_positive}
use Rattle.fm_projection.proofs.rows.append_pairs.Goals as goal
use Rattle.fm_projection.proofs.rows.append_pairs.Goals.{then-coefficient-gt0+in-Ok, else-coefficient-gt0}

pub loop-row-preserved : goal.loop-row-preserved
loop-row-preserved c =
    let k = c.loop-row.row-index in
    let i = c.args.variable in
    let fs = c.args.rows.now in
    let f = c.row-item.result in
    let a = c.coefficient.result in
    elim c.if-coefficient-gt0.branch [
      | then-coefficient-gt0+in-Ok w ↦
          let next = passes is_positive i k fs f a c.loop-row-test.true c.row-item.is c.coefficient.ensures
          (positive a (omega (arith, ints))) in
          let more = paired i c.loop-row.out.items w.append_pairs_with.new.out.items f
          (chosen is_positive i (drop (k + 1) fs)) (chosen is_negative i fs) w.in-Ok.ensures in
          rw w.out-is (sym more ∙ (rw next at c.loop-row.invariant))
      | else-coefficient-gt0 w ↦
          let next = stays is_positive i k fs f a c.loop-row-test.true c.row-item.is c.coefficient.ensures
          (not_positive a (omega (arith, ints))) in
          rw w.out-is (rw next at c.loop-row.invariant)
    ]

pub returns : goal.returns
returns c =
    let none = drop_of_length-le c.args.rows.now c.loop-row-test.false in
    ends c.loop-row.out.items _ (rw none at c.loop-row.invariant)

pub returns-in-Err : goal.returns-in-Err
returns-in-Err c =
    let k = c.loop-row.row-index in
    let i = c.args.variable in
    let fs = c.args.rows.now in
    let ns = chosen is_negative i fs in
    let f = c.row-item.result in
    let a = c.coefficient.result in
    let rest = chosen is_positive i (drop (k + 1) fs) in
    let next = passes is_positive i k fs f a c.loop-row-test.true c.row-item.is c.coefficient.ensures
    (positive a (omega (arith, ints))) in
    stops c.args.out.now.items c.loop-row.out.items (pairs_run i (chosen is_positive i fs) ns)
    (pairs_run i (f ∷ rest) ns) c.in-Err.stop (rw next at c.loop-row.invariant)
    (pairs_stop i f rest ns c.in-Err.stop c.in-Err.ensures)
