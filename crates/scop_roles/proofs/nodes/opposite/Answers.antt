use Rattle.scop_syntax.proofs.Common.{◌≢◌, None, sym, subst}
use Rattle.scop_roles.specs.declared.kinds.Kind.TheVariants as kind
use Rattle.scop_roles.specs.declared.formula.Role.TheVariants as role
use Rattle.scop_roles.specs.Formula.{unary}
use Rattle.scop_roles.specs.Faults.{first, faults}
use Rattle.scop_roles.specs.steps.Judgement.{IsFormOf, HasForm}
use Rattle.scop_roles.proofs.Sizes.{opposite_affine}
use Rattle.scop_roles.proofs.NodeForms.{refused, opposite_refused}
use Rattle.scop_roles.proofs.nodes.opposite.Goals as goal

pub returns-in-Complement-clause-form : goal.returns-in-Complement-clause-form
returns-in-Complement-clause-form c f at h =
    subst (λ s. first (faults c.args.entries role.Affine (unary s f at)) ≢ None) (sym c.in-Complement.is)
    (refused (faults c.args.entries role.Free f) at kind.NotAffine)

pub returns-in-Not-clause-form : goal.returns-in-Not-clause-form
returns-in-Not-clause-form c f at h =
    subst (λ s. first (faults c.args.entries role.Affine (unary s f at)) ≢ None) (sym c.in-Not.is)
    (refused (faults c.args.entries role.Free f) at kind.NotAffine)

pub returns-in-None-clause-form : goal.returns-in-None-clause-form
returns-in-None-clause-form c f at h =
    subst (λ s. first (faults c.args.entries role.Affine (unary s f at)) ≢ None) (sym c.in-Minus.is)
    (opposite_refused c.args.entries f at (subst (λ x. IsFormOf c.args.entries f x) c.in-None.is h))

pub returns-in_ok-form-in-Some-clause-limits : goal.returns-in_ok-form-in-Some-clause-limits
returns-in_ok-form-in-Some-clause-limits c =
    opposite_affine c.args.entries c.in-Some.form c.in_ok-form-in-Some.form c.in_ok-form-in-Some.ensures.form
    (subst (λ x. HasForm c.args.entries x) c.in-Some.is c.requires)
