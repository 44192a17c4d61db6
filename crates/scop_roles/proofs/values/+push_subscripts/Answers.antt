use Rattle.scop_syntax.proofs.Common.{rules, ◌≡◌, map, fold, ap, sym, subst, ◌∙◌}
use Rattle.scop_roles.specs.Formula.{formula_of, index}
use Rattle.scop_roles.proofs.Views.{formula_index}
use Rattle.scop_roles.proofs.Chains.{HasForms}
use Rattle.scop_roles.proofs.FormulaValues.{on_ok}
use Rattle.scop_roles.proofs.values.+push_subscripts.Goals as goal

pub returns-in-Ok-push_forms : goal.returns-in-Ok-push_forms
returns-in-Ok-push_forms t c =
    let n = c.args.entries in
    let old = c.args.forms.now.items in
    let new = c.push_form.new.forms.items in
    let p = formula_of c.in-Index.inner.value in
    let whole = fold index p (map formula_of c.in-Index.earlier.items) in
    let e = ap formula_of c.in-Index.is ∙ formula_index c.in-Index.inner c.in-Index.earlier c.in-Index.last in
    let d : c.deref.result.now ≡ c.in-Index.inner.value = search rules in
    let s : c.deref-in-Index-2.result.now ≡ c.in-Index.last.value = search rules in
    let inner = subst (λ v. HasForms n c.push_subscripts.new.forms.items old (formula_of v)) d c.in-Ok.ensures in
    let before = subst (λ xs. HasForms n c.push_forms.new.forms.items old (fold index p (map formula_of xs)))
    c.deref-in-Index.ensures.value (c.in-Ok-push_forms.ensures p old inner) in
    on_ok c.push_form.result
    (λ all. subst (λ f. HasForms n new old f) (ap (λ v. index whole (formula_of v)) s ∙ sym e) (all whole old before))
    c.push_form.ensures
