use Rattle.whole_numbers.proofs.Common.{◌≡◌, ◌+◌, ◌<◌, rules, ap, sym, ◌∙◌, arith, length, drop, get_or, to_z, List, ℤ}
use Rattle.whole_numbers.proofs.Common.{pos, ◌+ℤ◌, ◌*ℤ◌, FitsSigned, w64, ints, to_z-of_z, int_wrap_fits}
use Rattle.whole_numbers.proofs.Common.{get_or_default, dot, Affine, value_of}
use Rattle.std.specs.Int.{int_wrap}
use Rattle.scop_syntax.proofs.WrappedSums.{dot_step, dot_end, value_step}
use Rattle.scop_syntax.proofs.affine_values.value_at.Goals as goal

pub loop-at-init : goal.loop-at-init
loop-at-init c =
    let k = c.form.inside.constant in
    let fit : FitsSigned w64 k = search rules in
    let same : k ≡ c.args.form.now.constant = ap (λ (f : Affine). f.constant) c.form.view_is in
    ap (int_wrap w64) (omega (arith, ints))

pub loop-at-preserved : goal.loop-at-preserved
loop-at-preserved c =
    let at = c.loop-at.at in
    let v = c.loop-at.value in
    let cs = c.args.form.now.coefficients in
    let xs = c.args.point.now in
    let r = c.with_product-value.result in
    let whole = int_wrap w64 (value_of c.args.form.now xs) in
    let rest = dot (drop (at + 1) cs) (drop (at + 1) xs) in
    let same : c.form.inside.coefficients.items ≡ cs = ap (λ (f : Affine). f.coefficients) c.form.view_is in
    let long : length c.form.inside.coefficients.items ≡ length cs = ap length same in
    let h : at < length cs = omega arith in
    let k : at < length xs = omega arith in
    let fit : FitsSigned w64 r = search rules in
    let fits_c : FitsSigned w64 c.index.result.now = search rules in
    let fits_x : FitsSigned w64 (get_or xs at (pos 0)) = search rules in
    let entry : c.index.result.now ≡ get_or cs at (pos 0) = c.index.ensures
    ∙ (ap (λ (l : List ℤ). get_or l at c.index.result.now) same ∙ get_or_default cs at _ _ h) in
    let product = simp to_z-of_z at c.with_product-value.ensures in
    let added : r ≡ int_wrap w64 (v +ℤ (get_or cs at (pos 0) *ℤ get_or xs at (pos 0))) =
    product ∙ (ap (λ (z : ℤ). int_wrap w64 (z +ℤ (c.index.result.now *ℤ get_or xs at (pos 0)))) c.loop-at.value-is
    ∙ ap (λ (z : ℤ). int_wrap w64 (v +ℤ (z *ℤ get_or xs at (pos 0)))) entry) in
    let before : int_wrap w64 (v +ℤ ((get_or cs at (pos 0) *ℤ get_or xs at (pos 0)) +ℤ rest)) ≡ whole =
    ap (λ (z : ℤ). int_wrap w64 (v +ℤ z)) (sym (dot_step cs xs at h k))
    ∙ (ap (λ (z : ℤ). int_wrap w64 (z +ℤ dot (drop at cs) (drop at xs))) (sym c.loop-at.value-is)
    ∙ c.loop-at.invariant) in
    let after : int_wrap w64 (r +ℤ rest) ≡ whole = ap (λ (z : ℤ). int_wrap w64 (z +ℤ rest)) added
    ∙ value_step v rest (get_or cs at (pos 0)) (get_or xs at (pos 0)) whole before in
    ap (λ (z : ℤ). int_wrap w64 (z +ℤ rest)) (to_z-of_z w64 r fit) ∙ after

pub returns : goal.returns
returns c =
    let cs = c.args.form.now.coefficients in
    let xs = c.args.point.now in
    let v = to_z w64 c.loop-at.value-bits in
    let same : length c.form.inside.coefficients.items
    ≡ length cs = ap (λ (f : Affine). length f.coefficients) c.form.view_is in
    let ended : dot (drop c.loop-at.at cs) (drop c.loop-at.at xs) ≡ pos 0 = dot_end cs xs c.loop-at.at (omega arith) in
    let fit : FitsSigned w64 v = search rules in
    let nothing : v ≡ v +ℤ pos 0 = omega (arith, ints) in
    sym (int_wrap_fits w64 v fit)
    ∙ (ap (int_wrap w64) nothing ∙ (ap (λ (z : ℤ). int_wrap w64 (v +ℤ z)) (sym ended) ∙ c.loop-at.invariant))
