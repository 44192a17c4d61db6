use Rattle.scop_syntax.proofs.Common.{subst, IfOk, expression_of}
use Rattle.scop_roles.specs.Formula.{formula_of}
use Rattle.scop_roles.specs.Values.{IsValueOf}
use Rattle.scop_roles.proofs.FormulaValues.{if_ok, converted_side}
use Rattle.scop_roles.proofs.values.side_value.Goals as goal

pub returns-in-Ok : goal.returns-in-Ok
returns-in-Ok c n before =
    let f = formula_of c.args.side.now in
    let y_is = subst (λ r. IfOk r (λ e. IsValueOf n f (expression_of e))) c.in-Ok.is before in
    if_ok c.narrowed_where.result
    (λ x x_is. converted_side n c.args.narrow c.is_converted.result f (expression_of x) (expression_of c.in-Ok.value)
    c.is_converted.ensures y_is x_is) c.narrowed_where.ensures
