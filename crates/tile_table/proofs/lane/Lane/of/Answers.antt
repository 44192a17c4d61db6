use Rattle.scop_syntax.proofs.Common.{◌≡◌, ◌∙◌, ap, rules, ℤ, ◌-ℤ◌, FitsSigned, cast_unsigned, w64, Affine, value_of}
use Rattle.scop_syntax.proofs.Common.{dot, wrapped_is}
use Rattle.std.specs.Int.{int_wrap}
use Rattle.std.proofs.lemmas.Int.{wrapping_sub_is}
use Rattle.tile_table.proofs.Lanes.{is_lane, slope_wrapped}
use Rattle.tile_table.proofs.lane.Lane.of.Goals as goal

pub returns : goal.returns
returns c =
    let form : Affine = c.args.form.now in
    let turns = c.args.turns.now in
    let steps = c.args.steps.now in
    let v = c.value_at.result in
    let k = c.form.inside.constant in
    let same : k ≡ form.constant = ap (λ (f : Affine). f.constant) c.form.view_is in
    let fit_v : FitsSigned w64 v = search rules in
    let fit_k : FitsSigned w64 k = search rules in
    is_lane form steps turns _ c.wrapped_at.ensures
    (c.cast_unsigned.ensures
    ∙ (ap (cast_unsigned w64) (wrapping_sub_is w64 v k fit_v fit_k
    ∙ (ap (λ (z : ℤ). int_wrap w64 (z -ℤ k)) c.value_at.ensures
    ∙ (ap (λ (z : ℤ). int_wrap w64 (int_wrap w64 (value_of form steps) -ℤ z)) same ∙ slope_wrapped form steps)))
    ∙ wrapped_is (dot form.coefficients steps)))
