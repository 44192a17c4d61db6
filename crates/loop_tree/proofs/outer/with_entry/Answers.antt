use Rattle.scop_syntax.proofs.Common.{◌≡◌, ◌∙◌, ℤ, List, [], ◌∷◌, ap, sym, rules, ◌+ℤ◌, ◌*ℤ◌, FitsSigned, w64, w128}
use Rattle.scop_syntax.proofs.Common.{to_z-of_z, dot}
use Rattle.loop_tree.proofs.Products.{dot_one}
use Rattle.loop_tree.proofs.outer.with_entry.Goals as goal

pub returns-in-Some-clause-sum : goal.returns-in-Some-clause-sum
returns-in-Some-clause-sum c =
    let s = c.args.sum in
    let x = c.args.value in
    let k = c.in-Some.coefficient.now in
    let fits_s : FitsSigned w128 s = c.ranges.sum in
    let fits_x : FitsSigned w128 x = c.ranges.value in
    let narrow : FitsSigned w64 k = search rules in
    let fits : FitsSigned w128 c.with_product.result = search rules in
    let told : c.with_product.result ≡ s +ℤ (k *ℤ x) = simp to_z-of_z at c.with_product.ensures in
    let whole : dot c.args.coefficients.now (x ∷ []) ≡ k *ℤ x =
    ap (λ (cs : List ℤ). dot cs (x ∷ [])) c.in-Some.ensures.cases.0 ∙ dot_one k c.in-Some.rest.now x in
    to_z-of_z w128 c.with_product.result fits ∙ (told ∙ ap (λ (z : ℤ). s +ℤ z) (sym whole))
