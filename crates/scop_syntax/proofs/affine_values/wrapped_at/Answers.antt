use Rattle.whole_numbers.proofs.Common.{◌≡◌, ap, ◌∙◌, rules, FitsSigned, w64, cast_unsigned, to_z-of_z, value_of}
use Rattle.scop_syntax.proofs.WrappedSums.{wrapped_is}
use Rattle.scop_syntax.proofs.affine_values.wrapped_at.Goals as goal

pub returns : goal.returns
returns c =
    let fit : FitsSigned w64 c.value_at.result = search rules in
    let bits : c.cast_unsigned.result
    ≡ cast_unsigned w64 c.value_at.result = simp to_z-of_z at c.cast_unsigned.ensures in
    bits ∙ (ap (cast_unsigned w64) c.value_at.ensures ∙ wrapped_is (value_of c.args.form.now c.args.point.now))
