use Rattle.scop_syntax.proofs.Common.{rules, ◌≡◌, ◌<◌, ◌+◌, ◌*ℤ◌, ◌++◌, ◌∷◌, [], ◌∙◌, List, ℤ, add-one, ap, append_assoc, arith, drop}
use Rattle.scop_syntax.proofs.Common.{drop-cons, FitsSigned, get_or, length, multiples, negsuc, pos, refl, to_z-of_z, w128}
use Rattle.pluto_search.proofs.restricting.push_opposites.Goals as goal

pub loop-at-preserved : goal.loop-at-preserved
loop-at-preserved c =
    let xs = c.args.numbers.now in
    let i = c.loop-at.at in
    let z = get_or xs i (pos 0) in
    let old = c.loop-at.out.items in
    let rest = multiples (negsuc 0) (drop (i + 1) xs) in
    let inside : i < length xs = omega arith in
    let fits_z : FitsSigned w128 z = search rules in
    let fits : FitsSigned w128 c.opposite.result = search rules in
    let turned = simp to_z-of_z at c.opposite.ensures in
    let made = simp to_z-of_z at c.in_ok-push.ensures.ok in
    let here : (negsuc 0 *ℤ z) ∷ rest ≡ multiples (negsuc 0) (drop i xs) =
    rw (add-one i, drop-cons xs i (pos 0) inside) refl in
    ap (λ (ys : List ℤ). ys ++ rest) made
    ∙ (append_assoc old (c.opposite.result ∷ []) rest
    ∙ (ap (λ (y : ℤ). old ++ y ∷ rest) turned ∙ (ap (λ (ys : List ℤ). old ++ ys) here ∙ c.loop-at.invariant)))
