use Rattle.whole_numbers.proofs.Common.{◌∙◌, sym, drop, ◌∷◌, ◌+◌, refl, arith, ints}
use Rattle.std.proofs.Math.ListN.{drop_of_length-le}
use Rattle.fractions.specs.Elimination.{is_not_zero, chosen}
use Rattle.fm_projection.specs.Runs.{reduced_run, forms_run}
use Rattle.fm_projection.proofs.Loops.{passes, stays, gained, stops, ends, first_stops, not_zero, not_not_zero}
use Rattle.fm_projection.proofs.rows.append_reduced.Goals as goal
use Rattle.fm_projection.proofs.rows.append_reduced.Goals.{then-coefficient-ne0+in-Ok, else-coefficient-ne0}

pub loop-form-preserved : goal.loop-form-preserved
loop-form-preserved c =
    let k = c.loop-form.form-index in
    let i = c.args.variable in
    let fs = c.args.forms.now in
    let f = c.form-item.result in
    let a = c.coefficient.result in
    let step = reduced_run i c.args.equality.now in
    elim c.if-coefficient-ne0.branch [
      | then-coefficient-ne0+in-Ok w ↦
          let next = passes is_not_zero i k fs f a c.loop-form-test.true c.form-item.is c.coefficient.ensures
          (not_zero a (λ e. w.if-coefficient-ne0.true (rw e refl))) in
          let more = gained step c.loop-form.out.items w.append.new.out.items f
          (chosen is_not_zero i (drop (k + 1) fs)) (w.in-Ok.ensures (step f) w.reduced.ensures) in
          rw w.out-is (sym more ∙ (rw next at c.loop-form.invariant))
      | else-coefficient-ne0 w ↦
          let next = stays is_not_zero i k fs f a c.loop-form-test.true c.form-item.is c.coefficient.ensures
          (not_not_zero a (omega (arith, ints))) in
          rw w.out-is (rw next at c.loop-form.invariant)
    ]

pub returns : goal.returns
returns c =
    let none = drop_of_length-le c.args.forms.now c.loop-form-test.false in
    ends c.loop-form.out.items _ (rw none at c.loop-form.invariant)

pub returns-in-Err : goal.returns-in-Err
returns-in-Err c =
    let k = c.loop-form.form-index in
    let i = c.args.variable in
    let fs = c.args.forms.now in
    let f = c.form-item.result in
    let a = c.coefficient.result in
    let step = reduced_run i c.args.equality.now in
    let rest = chosen is_not_zero i (drop (k + 1) fs) in
    let next = passes is_not_zero i k fs f a c.loop-form-test.true c.form-item.is c.coefficient.ensures
    (not_zero a (λ e. c.if-coefficient-ne0.true (rw e refl))) in
    stops c.args.out.now.items c.loop-form.out.items (forms_run step (chosen is_not_zero i fs))
    (forms_run step (f ∷ rest)) c.in-Err.stop (rw next at c.loop-form.invariant)
    (first_stops step f rest c.in-Err.stop (c.in-Err.ensures (step f) c.reduced.ensures))
