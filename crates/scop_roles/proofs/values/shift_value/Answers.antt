use Rattle.scop_syntax.proofs.Common.{subst, IfOk, expression_of}
use Rattle.scop_roles.specs.Formula.{formula_of}
use Rattle.scop_roles.specs.Values.{IsSideOf}
use Rattle.scop_roles.proofs.FormulaValues.{if_ok, shift_value}
use Rattle.scop_roles.proofs.values.shift_value.Goals as goal

pub returns-in-Ok : goal.returns-in-Ok
returns-in-Ok c n f at unsigned narrow before =
    let y_is = subst (λ r. IfOk r (λ e. IsSideOf n c.args.narrow f (expression_of e))) c.in-Ok.is before in
    if_ok c.shifted.result
    (λ x x_is. shift_value n c.args.op f (formula_of c.args.right.now) at c.args.narrow (expression_of x)
    (expression_of c.in-Ok.left) c.count.result unsigned c.requires narrow y_is x_is c.count.ensures) c.shifted.ensures
