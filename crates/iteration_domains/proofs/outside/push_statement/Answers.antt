use Rattle.scop_syntax.proofs.Common.{◌∙◌, ℕ, ap}
use Rattle.integer_sets.specs.Constraints.{Constraints}
use Rattle.iteration_domains.specs.Outside.{fixed_forms}
use Rattle.iteration_domains.proofs.outside.push_statement.Goals as goal

pub push_fixed-requires-clause-forms : goal.push_fixed-requires-clause-forms
push_fixed-requires-clause-forms c =
    c.as_slice.ensures.value
    ∙ (c.in_ok-forms.ensures
    ∙ ap (λ (d : ℕ). fixed_forms d c.args.params.now)
    (c.dimensions-turns.ensures ∙ ap (λ (t : Constraints). t.dimensions) c.domain.ensures))
