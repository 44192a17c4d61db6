use Rattle.scop_syntax.proofs.Common.{rules, FitsSigned, w64, to_z-of_z, sums-nil}
use Rattle.scop_roles.proofs.forms.plus_constant.Goals as goal

pub returns : goal.returns
returns c =
    let fits : FitsSigned w64 c.plus.result = search rules in
    simp (to_z-of_z, sums-nil) (search rules)
