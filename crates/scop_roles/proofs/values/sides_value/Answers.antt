use Rattle.scop_syntax.proofs.Common.{subst, IfOk, expression_of}
use Rattle.scop_roles.specs.Values.{IsSideOf}
use Rattle.scop_roles.proofs.FormulaValues.{if_ok, joined_value}
use Rattle.scop_roles.proofs.values.sides_value.Goals as goal

pub returns-in-Ok : goal.returns-in-Ok
returns-in-Ok c n f g at unsigned narrow before behind =
    let y_is = subst (λ r. IfOk r (λ e. IsSideOf n c.args.narrow f (expression_of e))) c.in-Ok.ensures.first before in
    let z_is = subst (λ r. IfOk r (λ e. IsSideOf n c.args.narrow g (expression_of e))) c.in-Ok.ensures.second behind in
    if_ok c.joined.result
    (λ x x_is. joined_value n c.args.op f g at c.args.narrow (expression_of x) (expression_of c.in-Ok.left)
    (expression_of c.in-Ok.right) c.requires unsigned narrow y_is z_is x_is) c.joined.ensures
