use Rattle.scop_syntax.proofs.Common.{ap, ◌∙◌, implied, expression_of}
use Rattle.scop_roles.specs.Values.{combined, narrowed_where}
use Rattle.scop_roles.proofs.FormulaValues.{if_ok}
use Rattle.scop_roles.proofs.values.shifted.Goals as goal

pub returns-in-Ok : goal.returns-in-Ok
returns-in-Ok c =
    if_ok c.narrowed_where.result
    (λ x x_is d. x_is ∙ ap (λ z. narrowed_where c.args.narrow implied z)
    (c.shift.ensures d ∙ ap (λ v. combined c.args.op (expression_of v) d c.args.count) c.in-Ok.ensures))
    c.narrowed_where.ensures
