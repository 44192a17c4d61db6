use Rattle.scop_syntax.proofs.Common.{◌≡◌, ◌∙◌, ℤ, pos, List, ◌++◌, length, drop, ap, ap₂, subst, sym, rules, arith}
use Rattle.scop_syntax.proofs.Common.{◌+ℤ◌, FitsSigned, w64, w128, ints, to_z-of_z, Affine, value_of, dot}
use Rattle.scop_syntax.proofs.Common.{add_zero_left, dot-split}
use Rattle.loop_tree.specs.steps.Chain.{values_at}
use Rattle.loop_tree.specs.Fits.{SumsFit}
use Rattle.loop_tree.proofs.Products.{fits_back, fits_front, room_fits}
use Rattle.loop_tree.proofs.outer.value_at.Goals as goal

pub loops_part-part-requires : goal.loops_part-part-requires
loops_part-part-requires c =
    let f = c.args.form.now in
    let cs : c.as_slice.result.now ≡ f.coefficients =
    c.as_slice.ensures.value ∙ ap (λ (g : Affine). g.coefficients) c.form.view_is in
    subst (λ (zs : List ℤ). SumsFit (pos 0) zs (values_at c.args.point.now)) (sym cs)
    (fits_front (pos 0) f.coefficients (values_at c.args.point.now) c.args.params.now c.requires.sums)

pub with_params-requires : goal.with_params-requires
with_params-requires c =
    let f = c.args.form.now in
    let vo = values_at c.args.point.now in
    let ps = c.args.params.now in
    let part = c.loops_part-part.result in
    let cs : c.as_slice.result.now ≡ f.coefficients =
    c.as_slice.ensures.value ∙ ap (λ (g : Affine). g.coefficients) c.form.view_is in
    let sum_is = c.loops_part-part.ensures.sum ∙ ap (λ (zs : List ℤ). dot zs vo) cs in
    let rest_is = c.loops_part-part.ensures.rest ∙ ap (λ (zs : List ℤ). drop (length vo) zs) cs in
    let back = fits_back (pos 0) f.coefficients vo ps c.requires.sums in
    let zero : pos 0 +ℤ dot f.coefficients vo ≡ part.sum = add_zero_left (dot f.coefficients vo) ∙ sym sum_is in
    let whole : SumsFit part.sum part.rest.now ps =
    subst (λ (n : ℤ). SumsFit n part.rest.now ps) zero
    (subst (λ (ds : List ℤ). SumsFit (pos 0 +ℤ dot f.coefficients vo) ds ps) (sym rest_is) back) in
    let fits_sum : FitsSigned w128 part.sum = search rules in
    subst (λ (n : ℤ). SumsFit n part.rest.now ps) (sym (to_z-of_z w128 part.sum fits_sum)) whole

-- the sum of the products
pub overflow_add-result : goal.overflow_add-result
overflow_add-result c =
    let f = c.args.form.now in
    let vo = values_at c.args.point.now in
    let ps = c.args.params.now in
    let part = c.loops_part-part.result in
    let k = c.form.inside.constant in
    let cs : c.as_slice.result.now ≡ f.coefficients =
    c.as_slice.ensures.value ∙ ap (λ (g : Affine). g.coefficients) c.form.view_is in
    let sum_is = c.loops_part-part.ensures.sum ∙ ap (λ (zs : List ℤ). dot zs vo) cs in
    let rest_is = c.loops_part-part.ensures.rest ∙ ap (λ (zs : List ℤ). drop (length vo) zs) cs in
    let fits_sum : FitsSigned w128 part.sum = search rules in
    let all : c.with_params.result ≡ dot f.coefficients (vo ++ ps) =
    c.with_params.ensures
    ∙ (ap (λ (n : ℤ). n +ℤ dot part.rest.now ps) (to_z-of_z w128 part.sum fits_sum)
    ∙ (ap₂ (λ (n : ℤ) (ds : List ℤ). n +ℤ dot ds ps) sum_is rest_is ∙ sym (dot-split f.coefficients vo ps))) in
    let same : k ≡ f.constant = ap (λ (g : Affine). g.constant) c.form.view_is in
    let value : c.with_params.result +ℤ k ≡ value_of f (vo ++ ps) = ap₂ (λ (a b : ℤ). a +ℤ b) all same in
    let room : FitsSigned w128 (c.with_params.result +ℤ k) =
    subst (λ (z : ℤ). FitsSigned w128 z) (sym value) (room_fits (value_of f (vo ++ ps)) c.requires.value) in
    let fits_result : FitsSigned w128 c.with_params.result = search rules in
    let narrow : FitsSigned w64 k = search rules in
    let wide : FitsSigned w128 k = omega (arith, ints, narrow) in
    simp to_z-of_z room

pub returns : goal.returns
returns c =
    let f = c.args.form.now in
    let vo = values_at c.args.point.now in
    let ps = c.args.params.now in
    let part = c.loops_part-part.result in
    let k = c.form.inside.constant in
    let cs : c.as_slice.result.now ≡ f.coefficients =
    c.as_slice.ensures.value ∙ ap (λ (g : Affine). g.coefficients) c.form.view_is in
    let sum_is = c.loops_part-part.ensures.sum ∙ ap (λ (zs : List ℤ). dot zs vo) cs in
    let rest_is = c.loops_part-part.ensures.rest ∙ ap (λ (zs : List ℤ). drop (length vo) zs) cs in
    let fits_sum : FitsSigned w128 part.sum = search rules in
    let all : c.with_params.result ≡ dot f.coefficients (vo ++ ps) =
    c.with_params.ensures
    ∙ (ap (λ (n : ℤ). n +ℤ dot part.rest.now ps) (to_z-of_z w128 part.sum fits_sum)
    ∙ (ap₂ (λ (n : ℤ) (ds : List ℤ). n +ℤ dot ds ps) sum_is rest_is ∙ sym (dot-split f.coefficients vo ps))) in
    let same : k ≡ f.constant = ap (λ (g : Affine). g.constant) c.form.view_is in
    let value : c.with_params.result +ℤ k ≡ value_of f (vo ++ ps) = ap₂ (λ (a b : ℤ). a +ℤ b) all same in
    let room : FitsSigned w128 (c.with_params.result +ℤ k) =
    subst (λ (z : ℤ). FitsSigned w128 z) (sym value) (room_fits (value_of f (vo ++ ps)) c.requires.value) in
    let fits_result : FitsSigned w128 c.with_params.result = search rules in
    let narrow : FitsSigned w64 k = search rules in
    let wide : FitsSigned w128 k = omega (arith, ints, narrow) in
    simp to_z-of_z value
