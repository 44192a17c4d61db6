use Rattle.scop_syntax.proofs.Common.{◌∙◌, ◌<◌, ◌^◌, ℤ, pos, ap, subst, get_or, sym, rules, ◌+ℤ◌, FitsSigned, w64}
use Rattle.scop_syntax.proofs.Common.{to_z-of_z, get_or-multiples}
use Rattle.tile_list.proofs.Stretches.{turn_on}
use Rattle.tile_list.proofs.keys.turn_after.Goals as goal

pub returns : goal.returns
returns c fits =
    let n = c.args.count in
    let place = c.args.place in
    let t = get_or c.args.turns.now place (pos 0) in
    let s = get_or c.args.steps.now place (pos 0) in
    let entry = get_or-multiples (pos n) c.args.steps.now place in
    let small : n < 2 ^ 64 = search rules in
    let fit : FitsSigned w64 c.with_product.result = search rules in
    let fits_t : FitsSigned w64 t = search rules in
    let fits_s : FitsSigned w64 s = search rules in
    let fits_n : FitsSigned w64 c.cast_signed.result = search rules in
    to_z-of_z w64 c.with_product.result fit
    ∙ (turn_on t s c.cast_signed.result c.with_product.result n small fits_t fits_s fits_n
    c.cast_signed.ensures c.with_product.ensures (subst (λ (z : ℤ). FitsSigned w64 (t +ℤ z)) entry fits)
    ∙ ap (λ (z : ℤ). t +ℤ z) (sym entry))
