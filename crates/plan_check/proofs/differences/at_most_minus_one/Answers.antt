use Rattle.scop_syntax.proofs.Common.{rules, ◌≡◌, ℤ, ◌+ℤ◌, ◌-ℤ◌, ◌++◌, negsuc, subst, FitsSigned, IfOk, w128, to_z-of_z}
use Rattle.scop_syntax.proofs.Common.{Affine, form_of, multiples, zeros}
use Rattle.plan_check.proofs.GoalRows.{fallen_is}
use Rattle.plan_check.proofs.differences.at_most_minus_one.Goals as goal

pub returns : goal.returns
returns c =
    let m = c.args.parameters in
    let f = c.args.source.now in
    let g = c.args.target.now in
    let z = c.less_by_more-constant.result in
    let fits : FitsSigned w128 z = search rules in
    let made = simp to_z-of_z at c.fallen.ensures in
    let is : z ≡ (f.constant -ℤ g.constant) +ℤ negsuc 0 = search rules in
    subst (λ (h : Affine). IfOk c.fallen.result (λ x. x ≡ h)) (fallen_is m f g)
    (subst (λ (k : ℤ). IfOk c.fallen.result
    (λ x. x ≡ form_of (f.coefficients ++ (multiples (negsuc 0) g.coefficients ++ zeros m)) k))
    is made)
