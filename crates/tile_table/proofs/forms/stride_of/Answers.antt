use Rattle.scop_syntax.proofs.Common.{List, map, arith, rules, FitsSigned, w64, length-map, Head}
use Rattle.std.proofs.lemmas.Int.{wrapping_sub_is}
use Rattle.tile_table.proofs.Tellings.{stride_is}
use Rattle.tile_table.proofs.forms.stride_of.Goals as goal

pub returns : goal.returns
returns c =
    let heads : List Head = map (λ h. h.now) c.args.heads.now in
    let next = c.number_in.result in
    let base = c.args.base in
    let fit_next : FitsSigned w64 next = search rules in
    let fit_base : FitsSigned w64 base = search rules in
    let many = length-map c.args.heads.now (λ h. h.now) in
    let few = c.requires.loops in
    stride_is 5 c.args.before c.args.extents.now c.args.subscripts.now heads c.args.params.now c.args.at _ next base
    (omega (arith, many, few)) c.requires.at c.number_in.ensures c.requires.base
    (wrapping_sub_is w64 next base fit_next fit_base)
