use Rattle.scop_syntax.proofs.Common.{rules, ◌≡◌, ap, ◌∙◌, length, length-multiples}
use Rattle.scop_roles.proofs.forms.multiple.Goals as goal

pub returns-clause-entries : goal.returns-clause-entries
returns-clause-entries c =
    let a : length c.deref.result.now ≡ c.args.entries = search rules in
    ap length c.in_ok-coefficients.ensures ∙ length-multiples _ c.deref.result.now ∙ a
