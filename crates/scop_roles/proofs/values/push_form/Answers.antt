use Rattle.scop_syntax.proofs.Common.{refl}
use Rattle.scop_roles.specs.Formula.{formula_of, index}
use Rattle.scop_roles.proofs.FormulaValues.{on_ok, pushed_subscripts}
use Rattle.scop_roles.proofs.values.push_form.Goals as goal

pub returns-in-Ok : goal.returns-in-Ok
returns-in-Ok c =
    let i = formula_of c.args.subscript.now in
    on_ok c.push_behind.result
    (λ all p xs before. pushed_subscripts c.args.entries (index p i) p i xs c.args.forms.now.items
    c.push_behind.new.values.items c.in-Ok.form refl before c.in-Ok.ensures.form all) c.push_behind.ensures
