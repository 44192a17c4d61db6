use Rattle.scop_syntax.proofs.Common.{◌∙◌, ℕ, List, ap, length, subst, sym, All, Affine, Access, program_of}
use Rattle.integer_sets.specs.Constraints.{Constraints}
use Rattle.iteration_domains.specs.Outside.{fixed_domain}
use Rattle.iteration_domains.specs.Sizes.{IsNarrow}
use Rattle.iteration_domains.specs.steps.Asking.{AreFixed, CanAsk}
use Rattle.iteration_domains.proofs.FixedForms.{are_fixed, as_many, narrow_at}
use Rattle.iteration_domains.proofs.outside.push_fixed.Goals as goal

pub fixed_domain-requires-clause-forms : goal.fixed_domain-requires-clause-forms
fixed_domain-requires-clause-forms c =
    let s = c.args.statement.now in
    let can = c.requires.can in
    subst (λ (t : Constraints). AreFixed t.dimensions c.args.forms.now) (sym c.domain.ensures)
    (subst (λ (fs : List Affine). AreFixed s.domain.dimensions fs) (sym c.requires.forms)
    (are_fixed s.domain.dimensions c.args.params.now can.few can.few_parameters can.values))

pub fixed_domain-requires-clause-equalities : goal.fixed_domain-requires-clause-equalities
fixed_domain-requires-clause-equalities c =
    let s = c.args.statement.now in
    let can = c.requires.can in
    subst (λ (t : Constraints). All (IsNarrow (length c.args.forms.now)) t.equalities) (sym c.domain.ensures)
    (narrow_at s.domain.dimensions s.domain.parameters c.args.params.now c.args.forms.now s.domain.equalities
    c.requires.forms can.parameters can.equalities)

pub fixed_domain-requires-clause-rows : goal.fixed_domain-requires-clause-rows
fixed_domain-requires-clause-rows c =
    let s = c.args.statement.now in
    let can = c.requires.can in
    subst (λ (t : Constraints). All (IsNarrow (length c.args.forms.now)) t.rows) (sym c.domain.ensures)
    (narrow_at s.domain.dimensions s.domain.parameters c.args.params.now c.args.forms.now s.domain.rows
    c.requires.forms can.parameters can.rows)

pub push_accesses-requires-clause-forms : goal.push_accesses-requires-clause-forms
push_accesses-requires-clause-forms c =
    let s = c.args.statement.now in
    let can = c.requires.can in
    subst (λ (t : Constraints). AreFixed t.dimensions c.args.forms.now)
    (sym (c.in_ok-domain.ensures ∙ ap (fixed_domain c.args.forms.now) c.domain.ensures))
    (subst (λ (fs : List Affine). AreFixed s.domain.dimensions fs) (sym c.requires.forms)
    (are_fixed s.domain.dimensions c.args.params.now can.few can.few_parameters can.values))

pub push_accesses-requires-clause-narrow : goal.push_accesses-requires-clause-narrow
push_accesses-requires-clause-narrow c =
    let s = c.args.statement.now in
    let can = c.requires.can in
    subst (λ (n : ℕ). All (λ (a : Access). All (IsNarrow n) a.subscripts) c.accesses.result.now)
    (as_many s.domain.dimensions s.domain.parameters c.args.params.now c.args.forms.now c.requires.forms
    can.parameters) c.accesses.ensures.narrow

pub push_accesses-requires-clause-accesses : goal.push_accesses-requires-clause-accesses
push_accesses-requires-clause-accesses c =
    subst (All (CanAsk (program_of c.args.kernel.now).arrays c.args.params.now)) (sym c.accesses.ensures.accesses)
    c.requires.can.accesses
