use Rattle.whole_numbers.proofs.Common.{◌∙◌, sym, drop, ◌∷◌, ◌+◌, arith, ints}
use Rattle.std.proofs.Math.ListN.{drop_of_length-le}
use Rattle.fractions.specs.Elimination.{is_negative, chosen}
use Rattle.fm_projection.specs.Runs.{pair_run, forms_run}
use Rattle.fm_projection.proofs.Loops.{passes, stays, gained, stops, ends, first_stops, negative, not_negative}
use Rattle.fm_projection.proofs.rows.append_pairs_with.Goals as goal
use Rattle.fm_projection.proofs.rows.append_pairs_with.Goals.{then-coefficient-lt0+in-Ok, else-coefficient-lt0}

pub loop-row-preserved : goal.loop-row-preserved
loop-row-preserved c =
    let k = c.loop-row.row-index in
    let i = c.args.variable in
    let fs = c.args.rows.now in
    let f = c.row-item.result in
    let a = c.coefficient.result in
    let step = pair_run i c.args.upper.now in
    elim c.if-coefficient-lt0.branch [
      | then-coefficient-lt0+in-Ok w ↦
          let next = passes is_negative i k fs f a c.loop-row-test.true c.row-item.is c.coefficient.ensures
          (negative a (omega (arith, ints))) in
          let more = gained step c.loop-row.out.items w.append.new.out.items f (chosen is_negative i (drop (k + 1) fs))
          (w.in-Ok.ensures (step f) w.pair.ensures) in
          rw w.out-is (sym more ∙ (rw next at c.loop-row.invariant))
      | else-coefficient-lt0 w ↦
          let next = stays is_negative i k fs f a c.loop-row-test.true c.row-item.is c.coefficient.ensures
          (not_negative a (omega (arith, ints))) in
          rw w.out-is (rw next at c.loop-row.invariant)
    ]

pub returns : goal.returns
returns c =
    let none = drop_of_length-le c.args.rows.now c.loop-row-test.false in
    ends c.loop-row.out.items _ (rw none at c.loop-row.invariant)

pub returns-in-Err : goal.returns-in-Err
returns-in-Err c =
    let k = c.loop-row.row-index in
    let i = c.args.variable in
    let fs = c.args.rows.now in
    let f = c.row-item.result in
    let a = c.coefficient.result in
    let step = pair_run i c.args.upper.now in
    let rest = chosen is_negative i (drop (k + 1) fs) in
    let next = passes is_negative i k fs f a c.loop-row-test.true c.row-item.is c.coefficient.ensures
    (negative a (omega (arith, ints))) in
    stops c.args.out.now.items c.loop-row.out.items (forms_run step (chosen is_negative i fs))
    (forms_run step (f ∷ rest)) c.in-Err.stop (rw next at c.loop-row.invariant)
    (first_stops step f rest c.in-Err.stop (c.in-Err.ensures (step f) c.pair.ensures))
