use Rattle.scop_syntax.proofs.Common.{◌≡◌, ◌∙◌, ℕ, ℤ, pos, ap, sym, refl, arith, to_z, ◌+ℤ◌, ◌*ℤ◌, FitsSigned, w64}
use Rattle.scop_syntax.proofs.Common.{w128, ints, to_z-of_z}
use Rattle.loop_tree.proofs.Products.{room_fits}
use Rattle.loop_tree.proofs.outer.with_product.Goals as goal

pub returns-then-coefficient-eq0 : goal.returns-then-coefficient-eq0
returns-then-coefficient-eq0 c =
    let k = c.args.coefficient in
    let zero : k ≡ pos 0 =
    sym (to_z-of_z w64 k c.ranges.coefficient) ∙ ap (λ (n : ℕ). to_z w64 n) c.if-coefficient-eq0.true in
    let none = ap (λ (z : ℤ). z *ℤ c.args.value) zero in
    to_z-of_z w128 c.args.sum c.ranges.sum ∙ omega (arith, ints, none)

pub overflow_cast-result : goal.overflow_cast-result
overflow_cast-result c =
    let k = c.args.coefficient in
    let narrow : FitsSigned w64 k = c.ranges.coefficient in
    let wide : FitsSigned w128 k = omega (arith, ints, narrow) in
    simp to_z-of_z wide

pub overflow_mul-result : goal.overflow_mul-result
overflow_mul-result c =
    let x = c.args.value in
    let k = c.args.coefficient in
    let fits_x : FitsSigned w128 x = c.ranges.value in
    let narrow : FitsSigned w64 k = c.ranges.coefficient in
    let wide : FitsSigned w128 k = omega (arith, ints, narrow) in
    simp to_z-of_z (room_fits (k *ℤ x) c.requires.0)

pub overflow_add-result : goal.overflow_add-result
overflow_add-result c =
    let s = c.args.sum in
    let x = c.args.value in
    let k = c.args.coefficient in
    let fits_s : FitsSigned w128 s = c.ranges.sum in
    let fits_x : FitsSigned w128 x = c.ranges.value in
    let narrow : FitsSigned w64 k = c.ranges.coefficient in
    let wide : FitsSigned w128 k = omega (arith, ints, narrow) in
    let product : FitsSigned w128 (k *ℤ x) = room_fits (k *ℤ x) c.requires.0 in
    simp to_z-of_z (room_fits (s +ℤ (k *ℤ x)) c.requires.1)

pub returns : goal.returns
returns c =
    let s = c.args.sum in
    let x = c.args.value in
    let k = c.args.coefficient in
    let fits_s : FitsSigned w128 s = c.ranges.sum in
    let fits_x : FitsSigned w128 x = c.ranges.value in
    let narrow : FitsSigned w64 k = c.ranges.coefficient in
    let wide : FitsSigned w128 k = omega (arith, ints, narrow) in
    let product : FitsSigned w128 (k *ℤ x) = room_fits (k *ℤ x) c.requires.0 in
    let total : FitsSigned w128 (s +ℤ (k *ℤ x)) = room_fits (s +ℤ (k *ℤ x)) c.requires.1 in
    let e : s +ℤ (k *ℤ x) ≡ s +ℤ (k *ℤ x) = refl in
    simp to_z-of_z e
