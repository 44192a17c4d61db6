use Rattle.scop_syntax.proofs.Common.{◌≡◌, ◌∙◌, pos, All, subst, ◌≤ℤ◌, Affine, all_next}
use Rattle.fractions.specs.Elimination.{coefficient_of}
use Rattle.plain_scan.specs.steps.Shadows.{IsEquality}
use Rattle.plain_scan.proofs.AppendedRows.{equality_at, row_holds_at}
use Rattle.plain_scan.proofs.CodeBounds.{take_all}
use Rattle.plain_scan.proofs.ConstraintNumbers.{all_none, large_equality, large_row}
use Rattle.plain_scan.proofs.numbers.numbers_alone.Goals as goal

pub loop-form-preserved : goal.loop-form-preserved
loop-form-preserved c =
    let t = c.args.alone.now in
    let all = c.equalities-form-items in
    let fs = all.result.now in
    let i = c.loop-form.form-index in
    let f = c.form-item.result in
    let is = c.form-item.is in
    let inside = c.loop-form-test.true in
    let inv = c.loop-form.invariant in
    let e = c.with_equality_of-numbers.ensures in
    let zero_at : Affine → Type 0 = λ f. coefficient_of 0 f ≡ pos 0 in
    let h : IsEquality t f = equality_at t fs i f is all.ensures.forms all.ensures.sized inside in
    record {
      between = λ x s. e.between x (h.holds _ s) (inv.between x s);
      small = e.small inv.small;
      below = λ n l. let w = e.low n l in all_next zero_at fs i f is inside (inv.below w.0 w.1) w.2;
      above = λ n l. let w = e.high n l in all_next zero_at fs i f is inside (inv.above w.0 w.1) w.2;
      large = large_equality t fs i f _ _ is inside all.ensures.forms inv.large e.large;
    }

pub loop-form-2-init : goal.loop-form-2-init
loop-form-2-init c =
    let all = c.equalities-form-items in
    let inv = c.loop-form.invariant in
    let gone = take_all all.result.now c.loop-form.form-index c.loop-form-test.false ∙ all.ensures.forms in
    let zero_at : Affine → Type 0 = λ f. coefficient_of 0 f ≡ pos 0 in
    record {
      between = inv.between;
      small = inv.small;
      below = λ n l. (
        subst (All zero_at) gone (inv.below n l),
        all_none (λ f. coefficient_of 0 f ≤ℤ pos 0) c.rows-form-items.result.now,
      );
      above = λ n l. (
        subst (All zero_at) gone (inv.above n l),
        all_none (λ f. pos 0 ≤ℤ coefficient_of 0 f) c.rows-form-items.result.now,
      );
      large = inv.large;
    }

pub loop-form-2-preserved : goal.loop-form-2-preserved
loop-form-2-preserved c =
    let t = c.args.alone.now in
    let all = c.rows-form-items in
    let fs = all.result.now in
    let i = c.loop-form-2.form-index in
    let item = c.form-item-in-loop-form-2 in
    let f = item.result in
    let is = item.is in
    let inside = c.loop-form-2-test.true in
    let inv = c.loop-form-2.invariant in
    let e = c.with_row_of-numbers.ensures in
    let most : Affine → Type 0 = λ f. coefficient_of 0 f ≤ℤ pos 0 in
    let least : Affine → Type 0 = λ f. pos 0 ≤ℤ coefficient_of 0 f in
    let h = row_holds_at t fs i f is all.ensures.forms inside in
    record {
      between = λ x s. e.between x (h _ s) (inv.between x s);
      small = e.small inv.small;
      below = λ n l. let w = e.low n l in let b = inv.below w.0 w.1 in
          (b.0, all_next most fs i f is inside b.1 w.2);
      above = λ n l. let w = e.high n l in let b = inv.above w.0 w.1 in
          (b.0, all_next least fs i f is inside b.1 w.2);
      large = large_row t fs i f _ _ is inside all.ensures.forms inv.large e.large;
    }

pub returns : goal.returns
returns c =
    let all = c.rows-form-items in
    let inv = c.loop-form-2.invariant in
    let gone = take_all all.result.now c.loop-form-2.form-index c.loop-form-2-test.false ∙ all.ensures.forms in
    record {
      between = inv.between;
      small = inv.small;
      below = λ n l. let b = inv.below n l in (b.0, subst (All (λ f. coefficient_of 0 f ≤ℤ pos 0)) gone b.1);
      above = λ n l. let b = inv.above n l in (b.0, subst (All (λ f. pos 0 ≤ℤ coefficient_of 0 f)) gone b.1);
      large = inv.large;
    }
