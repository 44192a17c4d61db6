use Rattle.tree_simplification.proofs.Common.{ℕ, ◌+◌, ap, ap₂, sym, ◌∙◌, true, variables_of, Context}
use Rattle.tree_simplification.proofs.Contexts.{sized_form}
use Rattle.tree_simplification.proofs.asking.never_holds_under.Goals as goal

pub never_holds-requires : goal.never_holds-requires
never_holds-requires c =
    let same = c.in_ok-under.ensures in
    ap variables_of c.in_ok-row.ensures ∙ sized_form c.args.turned true c.args.form.now ∙ c.requires.form
    ∙ sym (ap₂ (λ (a b : ℕ). a + b) (ap (λ (d : Context). d.loops) same) (ap (λ (d : Context). d.parameters) same))
