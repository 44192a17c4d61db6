use Rattle.scop_syntax.proofs.Common.{◌≡◌, ◌∙◌, ap₂, ◌<◌, ◌^◌, ℤ, to_z, arith, rules, pos, ◌+ℤ◌, FitsSigned, w64, ints}
use Rattle.scop_syntax.proofs.Common.{int_wrap-add_right, values}
use Rattle.std.specs.Int.{int_wrap}
use Rattle.std.proofs.lemmas.Int.{wrapping_add_onto}
use Rattle.tile_table.specs.Numbers.{row_major}
use Rattle.tile_table.proofs.numbers.number_behind.Goals as goal

pub returns : goal.returns
returns c =
    let before = c.args.before in
    let offset = c.offset_at-offset.result in
    let few = c.requires.few in
    let own = row_major (pos 0) c.args.extents.now (values c.args.subscripts.now c.args.point.now) in
    let fit : FitsSigned w64 offset = search rules in
    let bits : before < 2 ^ 64 = omega (arith, few) in
    let signed : to_z w64 before ≡ pos before = omega (arith, ints, few) in
    wrapping_add_onto w64 before offset bits fit
    ∙ (ap₂ (λ (x y : ℤ). int_wrap w64 (x +ℤ y)) signed c.offset_at-offset.ensures
    ∙ int_wrap-add_right w64 (pos before) own)
