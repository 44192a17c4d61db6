use Rattle.scop_syntax.proofs.Common.{subst, IfOk, expression_of}
use Rattle.scop_roles.specs.Values.{IsValueOf}
use Rattle.scop_roles.proofs.FormulaValues.{if_ok, cast_of_value}
use Rattle.scop_roles.proofs.values.cast_value.Goals as goal

pub returns-in-Ok : goal.returns-in-Ok
returns-in-Ok c n f at before =
    let y_is = subst (λ r. IfOk r (λ e. IsValueOf n f (expression_of e))) c.in-Ok.is before in
    if_ok c.under_cast.result
    (λ x x_is. cast_of_value n c.args.width f at (expression_of x) (expression_of c.in-Ok.operand) y_is x_is)
    c.under_cast.ensures
