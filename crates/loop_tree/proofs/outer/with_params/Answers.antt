use Rattle.scop_syntax.proofs.Common.{◌≡◌, ◌∙◌, ◌+◌, ◌<◌, ℤ, pos, List, [], ◌∷◌, length, drop, get_or, ap, subst, sym}
use Rattle.scop_syntax.proofs.Common.{refl, arith, rules, to_z, of_z, add-one, drop-cons, drop_of_length-le, ◌+ℤ◌}
use Rattle.scop_syntax.proofs.Common.{FitsSigned, w64, w128, ints, to_z-of_z, dot, dot-nil}
use Rattle.loop_tree.specs.Fits.{SumsFit}
use Rattle.loop_tree.proofs.Products.{Summing, summed_fits, summed_one}
use Rattle.loop_tree.proofs.outer.with_params.Goals as goal

pub with_entry-part-requires : goal.with_entry-part-requires
with_entry-part-requires c =
    let at = c.loop-param in
    let params = c.args.params.now in
    let i = at.param-index in
    let p = get_or params i (pos 0) in
    let h : i < length params = c.loop-param-test.true in
    let here : drop i params ≡ p ∷ drop (i + 1) params = rw (add-one, drop-cons params i (pos 0) h) refl in
    let whole : SumsFit (to_z w128 at.sum-bits) at.rest.now (p ∷ []) =
    summed_fits _ (to_z w128 at.sum-bits) _ at.rest.now _ (drop i params) (drop (i + 1) params) p at.invariant here in
    let narrow : FitsSigned w64 p = search rules in
    let wide : FitsSigned w128 p = omega (arith, ints, narrow) in
    let e : to_z w128 (of_z w128 (to_z w64 (of_z w64 p))) ≡ p =
    ap (λ (z : ℤ). to_z w128 (of_z w128 z)) (to_z-of_z w64 p narrow) ∙ to_z-of_z w128 p wide in
    subst (λ (q : ℤ). SumsFit (to_z w128 at.sum-bits) at.rest.now (q ∷ [])) (sym e) whole

pub loop-param-preserved : goal.loop-param-preserved
loop-param-preserved c =
    let at = c.loop-param in
    let params = c.args.params.now in
    let i = at.param-index in
    let p = get_or params i (pos 0) in
    let h : i < length params = c.loop-param-test.true in
    let here : drop i params ≡ p ∷ drop (i + 1) params = rw (add-one, drop-cons params i (pos 0) h) refl in
    let part = c.with_entry-part.result in
    let start = to_z w128 (of_z w128 c.args.sum) in
    let sum = to_z w128 at.sum-bits in
    let narrow : FitsSigned w64 p = search rules in
    let wide : FitsSigned w128 p = omega (arith, ints, narrow) in
    let e : to_z w128 (of_z w128 (to_z w64 (of_z w64 p))) ≡ p =
    ap (λ (z : ℤ). to_z w128 (of_z w128 z)) (to_z-of_z w64 p narrow) ∙ to_z-of_z w128 p wide in
    let told : part.sum ≡ sum +ℤ dot at.rest.now (p ∷ []) =
    c.with_entry-part.ensures.sum ∙ ap (λ (q : ℤ). sum +ℤ dot at.rest.now (q ∷ [])) e in
    let step = summed_one start sum part.sum c.args.coefficients.now at.rest.now part.rest.now params (drop i params)
    (drop (i + 1) params) p at.invariant here told c.with_entry-part.ensures.rest in
    let fits : FitsSigned w128 part.sum = search rules in
    subst (λ (n : ℤ). Summing start n c.args.coefficients.now part.rest.now params (drop (i + 1) params))
    (sym (to_z-of_z w128 part.sum fits)) step

pub returns : goal.returns
returns c =
    let at = c.loop-param in
    let params = c.args.params.now in
    let i = at.param-index in
    let none : drop i params ≡ [] = drop_of_length-le params (omega arith) in
    let whole = at.invariant.whole in
    let n = dot-nil at.rest.now in
    let d = ap (λ (xs : List ℤ). dot at.rest.now xs) none in
    let start = to_z-of_z w128 c.args.sum c.ranges.sum in
    omega (arith, ints, whole, n, d, start)
