use Rattle.scop_syntax.proofs.Common.{rules, ◌≡◌, ℤ, ◌+ℤ◌, ◌-ℤ◌, negsuc, subst, FitsSigned, IfOk, w128, to_z-of_z}
use Rattle.scop_syntax.proofs.Common.{form_of}
use Rattle.plan_check.specs.Goals.{apart}
use Rattle.plan_check.proofs.differences.at_least_one.Goals as goal

pub returns : goal.returns
returns c =
    let f = c.args.source.now in
    let g = c.args.target.now in
    let z = c.less_by_more-constant.result in
    let fits : FitsSigned w128 z = search rules in
    let made = simp to_z-of_z at c.risen.ensures in
    let is : z ≡ (g.constant -ℤ f.constant) +ℤ negsuc 0 = search rules in
    subst (λ (k : ℤ). IfOk c.risen.result (λ x. x ≡ form_of (apart c.args.parameters f g).coefficients k)) is made
