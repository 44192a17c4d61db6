use Rattle.scop_syntax.proofs.Common.{◌≡◌, ◌∙◌, ap, ap₂, sym, refl, ◌<◌, ◌≤◌, ℤ, length, min, get_or, of_z, to_z, arith}
use Rattle.scop_syntax.proofs.Common.{rules, pos, ◌+ℤ◌, ◌*ℤ◌, FitsSigned, w64, int_wrap_fits, ints, to_z-of_z}
use Rattle.scop_syntax.proofs.Common.{drop_more, get_or-map, length-map, Affine, value_of, values}
use Rattle.std.specs.Int.{int_wrap}
use Rattle.tile_table.specs.Numbers.{row_major}
use Rattle.tile_table.specs.steps.Same.{IsSame}
use Rattle.tile_table.proofs.Offsets.{offset_more, offset_whole}
use Rattle.tile_table.proofs.Congruences.{same_wrapped, sum_same}
use Rattle.tile_table.proofs.numbers.offset_at.Goals as goal

pub loop-at-preserved : goal.loop-at-preserved
loop-at-preserved c =
    let es = c.args.extents.now in
    let forms = c.args.subscripts.now in
    let point = c.args.point.now in
    let vs = values forms point in
    let at = c.loop-at.at in
    let offset = to_z w64 c.loop-at.offset-bits in
    let extent = get_or es at 0 in
    let value = get_or vs at (pos 0) in
    let form = c.index-subscripts-at.result in
    let v = c.value_at.result in
    let r = c.with_product-offset.result in
    let count = c.min-count.ensures in
    let less = c.loop-at-test.true in
    let here : at < length es = omega (arith, count, less) in
    let there : at < length forms = omega (arith, count, less) in
    let many = length-map forms (λ (f : Affine). value_of f point) in
    let size = c.requires at 0 here in
    let fit_r : FitsSigned w64 r = search rules in
    let fit_v : FitsSigned w64 v = search rules in
    let small = size.1 in
    let exact : to_z w64 extent ≡ pos extent = omega (arith, ints, small) in
    let told : value_of form point ≡ value =
    sym (get_or-map (λ (f : Affine). value_of f point) forms at form (pos 0) there
    ∙ ap (λ (f : Affine). value_of f point) (sym c.index-subscripts-at.is)) in
    let step : r ≡ int_wrap w64 (v +ℤ (pos extent *ℤ offset)) =
    c.with_product-offset.ensures
    ∙ ap₂ (λ (x y : ℤ). int_wrap w64 (x +ℤ (y *ℤ offset))) (to_z-of_z w64 v fit_v) exact in
    let same : IsSame (to_z w64 (of_z w64 r)) (value +ℤ (pos extent *ℤ offset)) =
    ap (int_wrap w64) (to_z-of_z w64 r fit_r ∙ step)
    ∙ (same_wrapped (v +ℤ (pos extent *ℤ offset))
    ∙ sum_same v value (pos extent *ℤ offset) (pos extent *ℤ offset)
    (ap (int_wrap w64) (c.value_at.ensures ∙ ap (int_wrap w64) told) ∙ same_wrapped value) refl) in
    offset_more es vs at extent value offset (to_z w64 (of_z w64 r)) (row_major (pos 0) es vs)
    (drop_more es at 0 here) (drop_more vs at (pos 0) (omega (arith, many, there))) same c.loop-at.invariant

pub returns : goal.returns
returns c =
    let es = c.args.extents.now in
    let forms = c.args.subscripts.now in
    let vs = values forms c.args.point.now in
    let offset = to_z w64 c.loop-at.offset-bits in
    let count = c.min-count.ensures in
    let many = length-map forms (λ (f : Affine). value_of f c.args.point.now) in
    let ended = c.loop-at-test.false in
    let past : min (length es) (length vs) ≤ c.loop-at.at = omega (arith, count, many, ended) in
    let fit : FitsSigned w64 offset = search rules in
    sym (int_wrap_fits w64 offset fit)
    ∙ (ap (int_wrap w64) (sym (offset_whole es vs c.loop-at.at offset past)) ∙ c.loop-at.invariant)
