use Rattle.scop_syntax.proofs.Common.{rules, ◌≡◌, ◌++◌, ◌∙◌, ◌+◌, ap, ap₂, subst, FitsSigned, IfOk, w64, Affine}
use Rattle.scop_syntax.proofs.Common.{IfOk-weaker, form_of, zeros}
use Rattle.std.proofs.lemmas.List.{append_assoc}
use Rattle.tile_skew.specs.steps.Sizes.{FitsWidth}
use Rattle.tile_skew.proofs.Widths.{narrow_held, row_small}
use Rattle.tile_skew.proofs.forms.row_form.Goals as goal

pub returns-clause-form : goal.returns-clause-form
returns-clause-form c =
    let l = c.args.scattering.now.layout in
    let f = c.args.form.now in
    let behind = zeros (l.missing + l.parameters) in
    let own : c.as_slice.result.now ≡ f.coefficients =
    c.as_slice.ensures.value ∙ ap (λ (g : Affine). g.coefficients) c.form.view_is in
    let narrow : FitsSigned w64 c.form.inside.constant = search rules in
    let constant = narrow_held c.form.inside.constant narrow ∙ ap (λ (g : Affine). g.constant) c.form.view_is in
    let front = c.in_ok-push_zeros.ensures ∙ ap (λ ns. ns ++ zeros l.front) c.new-numbers.ensures.items in
    let more = c.in_ok-push_numbers.ensures ∙ ap₂ (λ xs ys. xs ++ ys) front own in
    let all = c.as_slice-2.ensures ∙ (c.in_ok-push_zeros-2.ensures
    ∙ (ap (λ ns. ns ++ behind) more ∙ append_assoc (zeros l.front) f.coefficients behind)) in
    subst (λ (g : Affine). IfOk c.form_from.result (λ h. h ≡ g)) (ap₂ form_of all constant) c.form_from.ensures

pub returns-clause-small : goal.returns-clause-small
returns-clause-small c =
    let l = c.args.scattering.now.layout in
    IfOk-weaker c.form_from.result _ (FitsWidth l)
    (λ g made. row_small l c.args.form.now g made c.requires c.args.scattering.now.fits) (returns-clause-form c)
