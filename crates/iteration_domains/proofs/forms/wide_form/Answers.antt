use Rattle.scop_syntax.proofs.Common.{rules, ◌≡◌, ◌∙◌, ◌++◌, ap, ap₂, subst, FitsSigned, IfOk, w64, w128, to_z-of_z}
use Rattle.scop_syntax.proofs.Common.{Affine, form_of}
use Rattle.iteration_domains.proofs.forms.wide_form.Goals as goal

pub returns : goal.returns
returns c =
    let all : c.as_slice-2.result.now ≡ c.aff.inside.coefficients.items =
    c.as_slice-2.ensures ∙ (c.in_ok-push_numbers.ensures
    ∙ ap₂ (λ xs ys. xs ++ ys) c.new-coefficients.ensures.items c.as_slice.ensures.value) in
    let fits : FitsSigned w64 c.aff.inside.constant = search rules in
    let fits_wide : FitsSigned w128 c.aff.inside.constant = search rules in
    subst (λ (g : Affine). IfOk c.form_from.result (λ f. f ≡ g))
    (ap (λ xs. form_of xs c.aff.inside.constant) all ∙ c.aff.view_is) (simp to_z-of_z at c.form_from.ensures)
