use Rattle.dataflow.proofs.Common.{rules, ◌≡◌, ℤ, negsuc, pos, ap, ◌∙◌, sym, subst, FitsSigned, ◌++◌, ◌∷◌, [], ◌-ℤ◌}
use Rattle.dataflow.proofs.Common.{w128, to_z-of_z, on_ok_weaker, Affine, fits, multiples, fits_iff, HoldOpposites}
use Rattle.dataflow.proofs.LeafForms.{can_opposite, end_put, opposed_of}
use Rattle.dataflow.proofs.leaf_rows.push_end.Goals as goal

pub opposites-requires : goal.opposites-requires
opposites-requires c =
    subst HoldOpposites (sym c.coefficients.ensures)
    (opposed_of c.args.form.now.coefficients c.requires.held.1.coefficients)

pub push_tied-requires-clause-numbers : goal.push_tied-requires-clause-numbers
push_tied-requires-clause-numbers c =
    can_opposite c.args.layout c.args.form.now.coefficients c.as_slice.result.now c.requires.form
    (c.as_slice.ensures ∙ (c.in_ok-opposite.ensures ∙ ap (multiples (negsuc 0)) c.coefficients.ensures))

pub returns : goal.returns
returns c =
    let l = c.args.layout in
    let f = c.args.form.now in
    let d = c.args.divisor in
    let k = (d -ℤ pos 1) -ℤ c.constant.result in
    let same : k ≡ (d -ℤ pos 1) -ℤ f.constant = ap (λ (z : ℤ). (d -ℤ pos 1) -ℤ z) c.constant.ensures in
    let fits_c : FitsSigned w128 c.constant.result = search rules in
    let fits_d : FitsSigned w128 c.args.divisor = search rules in
    let fits_less : FitsSigned w128 (c.args.divisor -ℤ pos 1) = search rules in
    let fits_k : FitsSigned w128 ((c.args.divisor -ℤ pos 1) -ℤ c.constant.result) = (fits_iff k).0 (ap fits same ∙ c.requires.held.1.constant) in
    let is = c.as_slice.ensures ∙ (c.in_ok-opposite.ensures ∙ ap (multiples (negsuc 0)) c.coefficients.ensures) in
    on_ok_weaker c.push_tied.result
    (λ put. put ∙ ap (λ (r : Affine). c.args.out.now.items ++ r ∷ [])
    (rw is (end_put l c.args.bound f d k c.requires.form c.requires.bound c.requires.more same)))
    (simp to_z-of_z at c.push_tied.ensures)
