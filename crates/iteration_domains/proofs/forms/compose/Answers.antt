use Rattle.scop_syntax.proofs.Common.{subst, sym, Affine}
use Rattle.iteration_domains.specs.Sizes.{CanCompose}
use Rattle.iteration_domains.proofs.forms.compose.Goals as goal

pub compose_form-requires : goal.compose_form-requires
compose_form-requires c =
    subst (λ (f : Affine). CanCompose c.args.variables c.args.forms.now f) (sym c.in_ok-form.ensures) c.requires
