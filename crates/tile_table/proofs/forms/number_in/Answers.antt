use Rattle.scop_syntax.proofs.Common.{◌∙◌, ap, List, map, rules, ℤ, FitsSigned, w64, to_z-of_z, Head}
use Rattle.std.specs.Int.{int_wrap}
use Rattle.tile_table.specs.Numbers.{number_behind}
use Rattle.tile_table.specs.Points.{point_in}
use Rattle.tile_table.proofs.Offsets.{number_same}
use Rattle.tile_table.proofs.forms.number_in.Goals as goal

pub returns : goal.returns
returns c =
    let before = c.args.before in
    let extents = c.args.extents.now in
    let subscripts = c.args.subscripts.now in
    let heads : List Head = map (λ h. h.now) c.args.heads.now in
    let point = c.point_in-point.result.items in
    let fit : FitsSigned w64 c.number_behind.result = search rules in
    to_z-of_z w64 c.number_behind.result fit
    ∙ (c.number_behind.ensures
    ∙ (ap (λ (p : List ℤ). int_wrap w64 (number_behind before extents subscripts p)) c.as_slice.ensures.value
    ∙ number_same before extents subscripts point (point_in heads c.args.params.now c.args.turns.now)
    c.point_in-point.ensures))
