use Rattle.scop_syntax.proofs.Common.{◌≡◌, true, ap, subst, ◌∙◌}
use Rattle.scop_roles.specs.Formula.{formula_of}
use Rattle.scop_roles.specs.Forms.{is_signed, has_name}
use Rattle.scop_roles.proofs.Views.{formula_binary}
use Rattle.scop_roles.proofs.FormulaValues.{named_right}
use Rattle.scop_roles.proofs.values.+has_name.Goals as goal

pub returns-else-has_name : goal.returns-else-has_name
returns-else-has_name t c h =
    let l = c.has_name-in-Binary.result in
    let r = c.has_name-else-has_name.result in
    let e = ap formula_of c.in-Binary.is
    ∙ formula_binary c.in-Binary.field-0 c.in-Binary.left c.in-Binary.right c.in-Binary.field-3 in
    named_right (formula_of c.args.formula.now) c.in-Binary.field-0 (formula_of c.in-Binary.left.value)
    (formula_of c.in-Binary.right.value) c.in-Binary.field-3 l r e
    (subst (λ v. is_signed (formula_of v) ≡ true → l ≡ has_name (formula_of v)) c.deref-in-Binary.ensures
    c.has_name-in-Binary.ensures)
    c.if-has_name.false
    (subst (λ v. is_signed (formula_of v) ≡ true → r ≡ has_name (formula_of v)) c.deref-else-has_name.ensures
    c.has_name-else-has_name.ensures)
    h
