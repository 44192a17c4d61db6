use Rattle.dataflow.proofs.Common.{◌≡◌, List, ℤ, pos, negsuc, set, sym, subst, rules, to_z, IfOk, w128, form_of, zeros}
use Rattle.dataflow.proofs.Lists.{opposite_unit}
use Rattle.dataflow.proofs.forms.below_form.Goals as goal

pub returns : goal.returns
returns c =
    let held : to_z w128 c.args.most ≡ pos c.args.most = search rules in
    let term : IfOk c.term_form.result
    (λ f. f ≡ form_of (set (zeros c.args.of) c.args.at (negsuc 0)) (pos c.args.most)) =
    subst (λ (z : ℤ). IfOk c.term_form.result (λ f. f ≡ form_of (set (zeros c.args.of) c.args.at (negsuc 0)) z)) held
    c.term_form.ensures in
    subst (λ (xs : List ℤ). IfOk c.term_form.result (λ f. f ≡ form_of xs (pos c.args.most)))
    (sym (opposite_unit c.args.of c.args.at)) term
