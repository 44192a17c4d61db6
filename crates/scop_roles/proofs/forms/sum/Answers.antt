use Rattle.scop_syntax.proofs.Common.{rules, ◌≡◌, length, ap, sym, ◌∙◌, length-sums}
use Rattle.scop_roles.proofs.forms.sum.Goals as goal

pub returns-clause-entries : goal.returns-clause-entries
returns-clause-entries c =
    let a : length c.deref.result.now ≡ c.args.entries = search rules in
    let b : length c.deref-2.result.now ≡ c.args.entries = search rules in
    ap length c.in_ok-coefficients.ensures ∙ length-sums c.deref.result.now c.deref-2.result.now (a ∙ sym b) ∙ a
