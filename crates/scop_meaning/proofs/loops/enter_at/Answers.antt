use Rattle.scop_syntax.proofs.Common.{◌≡◌, List, [], ◌∷◌, ◌++◌, ap, ap₂, ◌∙◌, rules, ℤ, ◌+ℤ◌, ◌*ℤ◌, FitsSigned, w64}
use Rattle.scop_syntax.proofs.Common.{int_wrap_fits, int_wrap-add_left, to_z-of_z, Affine, value_of, Head}
use Rattle.std.specs.Int.{int_wrap}
use Rattle.scop_meaning.proofs.loops.enter_at.Goals as goal

pub returns-clause-wrapped : goal.returns-clause-wrapped
returns-clause-wrapped c =
    let head = c.args.head.now in
    let point = c.args.point.now.items in
    let turn = c.args.turn in
    let v = value_of head.first point in
    let r = c.with_product.result in
    let fit_first : FitsSigned w64 c.value_at-first.result = search rules in
    let fit_stride : FitsSigned w64 c.head.inside.stride = search rules in
    let fit_turn : FitsSigned w64 turn = search rules in
    let fit : FitsSigned w64 r = search rules in
    let first : c.value_at-first.result ≡ int_wrap w64 v =
    c.value_at-first.ensures
    ∙ ap (int_wrap w64) (ap₂ (λ (f : Affine) (x : List ℤ). value_of f x) (ap (λ (h : Head). h.first) c.head.view_is)
    c.as_slice.ensures.value) in
    let stride : c.head.inside.stride ≡ head.stride = ap (λ (h : Head). h.stride) c.head.view_is in
    let raw : r ≡ int_wrap w64 (c.value_at-first.result +ℤ (c.head.inside.stride *ℤ turn)) =
    simp to_z-of_z at c.with_product.ensures in
    let entry : r ≡ int_wrap w64 (v +ℤ (head.stride *ℤ turn)) =
    raw ∙ (ap₂ (λ (z s : ℤ). int_wrap w64 (z +ℤ (s *ℤ turn))) first stride
    ∙ int_wrap-add_left w64 v (head.stride *ℤ turn)) in
    let pushed : c.push.new.self.items ≡ point ++ r ∷ [] = simp to_z-of_z at c.push.ensures.items in
    pushed ∙ ap (λ (z : ℤ). point ++ z ∷ []) entry

pub returns-clause-fitting : goal.returns-clause-fitting
returns-clause-fitting c = λ fits.
    let head = c.args.head.now in
    let point = c.args.point.now.items in
    returns-clause-wrapped c
    ∙ ap (λ (z : ℤ). point ++ z ∷ [])
    (int_wrap_fits w64 (value_of head.first point +ℤ (head.stride *ℤ c.args.turn)) fits)
