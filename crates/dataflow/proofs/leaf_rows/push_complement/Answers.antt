use Rattle.dataflow.proofs.Common.{rules, ℤ, negsuc, List, ap, ◌∙◌, FitsSigned, ◌++◌, ◌∷◌, [], ◌-ℤ◌, w128, to_z-of_z}
use Rattle.dataflow.proofs.Common.{on_ok_weaker, Affine, form_of, multiples, placed_numbers}
use Rattle.dataflow.proofs.LeafForms.{can_opposite, complement_put}
use Rattle.dataflow.proofs.leaf_rows.push_complement.Goals as goal

pub push_placed-requires : goal.push_placed-requires
push_placed-requires c =
    can_opposite c.args.layout c.args.form.now.coefficients c.as_slice.result.now c.requires.form
    (c.as_slice.ensures ∙ (c.in_ok-opposite.ensures ∙ ap (multiples (negsuc 0)) c.coefficients.ensures))

pub returns : goal.returns
returns c =
    let l = c.args.layout in
    let f = c.args.form.now in
    let k = negsuc 0 -ℤ c.constant.result in
    let fits_c : FitsSigned w128 c.constant.result = search rules in
    let fits_k : FitsSigned w128 (negsuc 0 -ℤ c.constant.result) = search rules in
    let is = c.as_slice.ensures ∙ (c.in_ok-opposite.ensures ∙ ap (multiples (negsuc 0)) c.coefficients.ensures) in
    on_ok_weaker c.push_placed.result
    (λ put. put ∙ ap (λ (r : Affine). c.args.out.now.items ++ r ∷ [])
    (ap (λ (cs : List ℤ). form_of (placed_numbers l cs) k) is
    ∙ complement_put l f k (ap (λ (z : ℤ). negsuc 0 -ℤ z) c.constant.ensures)))
    (simp to_z-of_z at c.push_placed.ensures)
