use Rattle.scop_syntax.proofs.Common.{◌≡◌, ◌∙◌, ◌+◌, ◌<◌, ℤ, pos, List, [], ◌∷◌, length, drop, get_or, ap, subst, sym}
use Rattle.scop_syntax.proofs.Common.{refl, arith, rules, to_z, of_z, add-one, drop-cons, drop_of_length-le, ◌+ℤ◌}
use Rattle.scop_syntax.proofs.Common.{FitsSigned, w128, ints, to_z-of_z, dot, dot-nil}
use Rattle.loop_tree.specs.Fits.{SumsFit}
use Rattle.loop_tree.proofs.Products.{Summing, drop_one, summed_fits, summed_one}
use Rattle.loop_tree.proofs.outer.with_row.Goals as goal

pub with_entry-part-requires : goal.with_entry-part-requires
with_entry-part-requires c =
    let at = c.loop-value in
    let row = c.args.row.now in
    let i = at.value-index in
    let x = get_or row i (pos 0) in
    let h : i < length row = c.loop-value-test.true in
    let here : drop i row ≡ x ∷ drop (i + 1) row = rw (add-one, drop-cons row i (pos 0) h) refl in
    let whole : SumsFit (to_z w128 at.sum-bits) at.rest.now (x ∷ []) =
    summed_fits _ (to_z w128 at.sum-bits) _ at.rest.now _ (drop i row) (drop (i + 1) row) x at.invariant.0 here in
    let fits : FitsSigned w128 x = search rules in
    subst (λ (q : ℤ). SumsFit (to_z w128 at.sum-bits) at.rest.now (q ∷ [])) (sym (to_z-of_z w128 x fits)) whole

pub loop-value-preserved : goal.loop-value-preserved
loop-value-preserved c =
    let at = c.loop-value in
    let row = c.args.row.now in
    let i = at.value-index in
    let x = get_or row i (pos 0) in
    let h : i < length row = c.loop-value-test.true in
    let here : drop i row ≡ x ∷ drop (i + 1) row = rw (add-one, drop-cons row i (pos 0) h) refl in
    let part = c.with_entry-part.result in
    let start = to_z w128 (of_z w128 c.args.sum) in
    let sum = to_z w128 at.sum-bits in
    let fits_x : FitsSigned w128 x = search rules in
    let told : part.sum ≡ sum +ℤ dot at.rest.now (x ∷ []) =
    c.with_entry-part.ensures.sum
    ∙ ap (λ (q : ℤ). sum +ℤ dot at.rest.now (q ∷ [])) (to_z-of_z w128 x fits_x) in
    let step = summed_one start sum part.sum c.args.coefficients.now at.rest.now part.rest.now row (drop i row)
    (drop (i + 1) row) x at.invariant.0 here told c.with_entry-part.ensures.rest in
    let fits : FitsSigned w128 part.sum = search rules in (
      subst (λ (n : ℤ). Summing start n c.args.coefficients.now part.rest.now row (drop (i + 1) row))
          (sym (to_z-of_z w128 part.sum fits)) step,
      c.with_entry-part.ensures.rest
          ∙ (ap (λ (cs : List ℤ). drop 1 cs) at.invariant.1 ∙ drop_one i c.args.coefficients.now),
    )

pub returns-clause-sum : goal.returns-clause-sum
returns-clause-sum c =
    let at = c.loop-value in
    let row = c.args.row.now in
    let i = at.value-index in
    let none : drop i row ≡ [] = drop_of_length-le row (omega arith) in
    let whole = at.invariant.0.whole in
    let n = dot-nil at.rest.now in
    let d = ap (λ (xs : List ℤ). dot at.rest.now xs) none in
    let start = to_z-of_z w128 c.args.sum c.ranges.sum in
    omega (arith, ints, whole, n, d, start)
