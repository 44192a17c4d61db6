use Rattle.scop_syntax.proofs.Common.{◌^◌, ◌≤◌, ℕ, subst, sym, ap, ◌∙◌, Affine, composed}
use Rattle.iteration_domains.specs.Sizes.{CanCompose, form_size}
use Rattle.iteration_domains.proofs.FixedForms.{can_fix, size-fixed}
use Rattle.iteration_domains.proofs.outside.push_subscript.Goals as goal

pub compose_form-requires : goal.compose_form-requires
compose_form-requires c =
    subst (λ (d : ℕ). CanCompose d c.args.forms.now c.args.subscript.now) (sym c.dimensions.ensures)
    (can_fix c.args.domain.now.dimensions c.args.forms.now c.args.subscript.now c.requires.forms c.requires.narrow)

pub push_sides-requires-clause-small : goal.push_sides-requires-clause-small
push_sides-requires-clause-small c =
    let is = c.in_ok-form.ensures.form
    ∙ ap (composed c.args.subscript.now c.args.forms.now) c.dimensions.ensures in
    subst (λ (f : Affine). form_size f ≤ 2 ^ 80) (sym is)
    (size-fixed c.args.domain.now.dimensions c.args.forms.now c.args.subscript.now c.requires.forms c.requires.narrow)
