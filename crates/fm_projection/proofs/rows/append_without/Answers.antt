use Rattle.whole_numbers.proofs.Common.{◌∙◌, drop, ◌+◌, arith, refl, ints}
use Rattle.fractions.specs.Elimination.{is_zero, chosen}
use Rattle.fm_projection.proofs.Loops.{passes, stays, lowered, zero_is, zero_not}
use Rattle.fm_projection.proofs.rows.append_without.Goals as goal
use Rattle.fm_projection.proofs.rows.append_without.Goals.{then-coefficient-eq0+in_ok-append_copy, else-coefficient-eq0}

pub loop-form-preserved : goal.loop-form-preserved
loop-form-preserved c =
    let k = c.loop-form.form-index in
    let i = c.args.variable in
    let fs = c.args.forms.now in
    let f = c.form-item.result in
    let a = c.coefficient.result in
    elim c.if-coefficient-eq0.branch [
      | then-coefficient-eq0+in_ok-append_copy w ↦
          let held = passes is_zero i k fs f a c.loop-form-test.true c.form-item.is c.coefficient.ensures
          (zero_is a (omega (arith, ints))) in
          rw w.out-is (lowered c.loop-form.out.items w.append_copy.new.out.items f (chosen is_zero i (drop (k + 1) fs))
          w.in_ok-append_copy.ensures ∙ (rw held at c.loop-form.invariant))
      | else-coefficient-eq0 w ↦
          let failed = stays is_zero i k fs f a c.loop-form-test.true c.form-item.is c.coefficient.ensures
          (zero_not a (λ e. w.if-coefficient-eq0.false (rw e refl))) in
          rw w.out-is (rw failed at c.loop-form.invariant)
    ]
