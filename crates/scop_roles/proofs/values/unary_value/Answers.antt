use Rattle.scop_syntax.proofs.Common.{subst, IfOk, expression_of}
use Rattle.scop_roles.specs.Values.{IsValueOf}
use Rattle.scop_roles.proofs.FormulaValues.{if_ok, unsigned_unary_value}
use Rattle.scop_roles.proofs.values.unary_value.Goals as goal

pub returns-in-Ok : goal.returns-in-Ok
returns-in-Ok c n f at unsigned narrow before =
    let y_is = subst (λ r. IfOk r (λ e. IsValueOf n f (expression_of e))) c.in-Ok.is before in
    if_ok c.signed_value.result
    (λ x x_is. unsigned_unary_value n c.args.sign f at c.args.narrow (expression_of x) (expression_of c.in-Ok.operand)
    unsigned narrow y_is x_is) c.signed_value.ensures
