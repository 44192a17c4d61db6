use Rattle.dataflow.proofs.Common.{rules, ◌≡◌, ◌+◌, negsuc, pos, ap, ◌∙◌, subst, FitsSigned, ◌++◌, ◌∷◌, [], arith}
use Rattle.dataflow.proofs.Common.{get_or, ◌-ℤ◌, neg_ℤ, w128, ints, to_z-of_z, on_ok_weaker, Affine, fits, multiples}
use Rattle.dataflow.proofs.Common.{fits_iff, placed_numbers}
use Rattle.dataflow.proofs.LeafForms.{can_opposite, equality_put}
use Rattle.dataflow.proofs.leaf_rows.push_turn_equality.Goals as goal

pub push_tied-requires-clause-numbers : goal.push_tied-requires-clause-numbers
push_tied-requires-clause-numbers c =
    can_opposite c.args.layout c.args.form.now.coefficients c.as_slice.result.now c.requires.form
    (c.as_slice.ensures ∙ (c.in_ok-opposite.ensures ∙ ap (multiples (negsuc 0)) c.coefficients.ensures))

pub returns : goal.returns
returns c =
    let l = c.args.layout in
    let f = c.args.form.now in
    let at = c.args.at in
    let k = pos 0 -ℤ c.constant.result in
    let same : pos 0 -ℤ c.constant.result ≡ neg_ℤ f.constant = omega (arith, ints, c.constant.ensures) in
    let fits_c : FitsSigned w128 c.constant.result = search rules in
    let fits_k : FitsSigned w128 (pos 0 -ℤ c.constant.result) = (fits_iff k).0 (ap fits same ∙ c.requires.held.constant) in
    let is = c.as_slice.ensures ∙ (c.in_ok-opposite.ensures ∙ ap (multiples (negsuc 0)) c.coefficients.ensures) in
    let first : at + 0 ≡ at = omega arith in
    let free = subst (λ i. get_or (placed_numbers l f.coefficients) i (pos 0) ≡ pos 0) first
    (c.requires.free f.coefficients 0 c.requires.form.least (omega arith)) in
    on_ok_weaker c.push_tied.result
    (λ put. put ∙ ap (λ (r : Affine). c.args.out.now.items ++ r ∷ [])
    (rw is (equality_put l at f k c.requires.form c.requires.at free same)))
    (simp to_z-of_z at c.push_tied.ensures)
