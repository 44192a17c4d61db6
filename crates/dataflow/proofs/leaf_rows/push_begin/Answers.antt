use Rattle.scop_syntax.proofs.Common.{rules, ◌≡◌, pos, ap, ◌∙◌, FitsSigned, ◌++◌, ◌∷◌, [], arith, ◌-ℤ◌, neg_ℤ, w128}
use Rattle.scop_syntax.proofs.Common.{ints, to_z-of_z, on_ok_weaker, Affine, fits, fits_iff}
use Rattle.dataflow.proofs.LeafForms.{begin_put}
use Rattle.dataflow.proofs.leaf_rows.push_begin.Goals as goal

pub returns : goal.returns
returns c =
    let l = c.args.layout in
    let f = c.args.form.now in
    let d = c.args.divisor in
    let fits_d : FitsSigned w128 c.args.divisor = search rules in
    let less : pos 0 -ℤ c.args.divisor ≡ neg_ℤ c.args.divisor = omega (arith, ints) in
    let fits_less : FitsSigned w128 (pos 0 -ℤ c.args.divisor) =
    (fits_iff (pos 0 -ℤ d)).0 (ap fits less ∙ c.requires.held.0) in
    let fits_c : FitsSigned w128 c.constant.result = search rules in
    on_ok_weaker c.push_tied.result
    (λ put. put ∙ ap (λ (r : Affine). c.args.out.now.items ++ r ∷ [])
    (rw (less, c.coefficients.ensures, c.constant.ensures)
    (begin_put l c.args.bound f d c.requires.form c.requires.bound c.requires.more)))
    (simp to_z-of_z at c.push_tied.ensures)
