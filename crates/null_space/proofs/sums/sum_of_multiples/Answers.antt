use Rattle.whole_numbers.proofs.Common.{rules, ◌+◌, pos, ◌∙◌, ap, arith, FitsSigned, get_or, drop, List, ◌∷◌, [], ◌++◌}
use Rattle.whole_numbers.proofs.Common.{ℤ, append_assoc, w128, to_z-of_z, sums, multiples}
use Rattle.null_space.proofs.ListLoops.{sums_step}
use Rattle.null_space.proofs.sums.sum_of_multiples.Goals as goal

pub loop-at-preserved : goal.loop-at-preserved
loop-at-preserved c =
    let xs = c.args.x.now in
    let ys = c.args.y.now in
    let a = c.args.a in
    let b = c.args.b in
    let i = c.loop-at.at in
    let fits_a = c.ranges.a in
    let fits_b = c.ranges.b in
    let fits_x : FitsSigned w128 (get_or xs i (pos 0)) = search rules in
    let fits_y : FitsSigned w128 (get_or ys i (pos 0)) = search rules in
    let fits : FitsSigned w128 c.cross_sum.result = search rules in
    let e = simp to_z-of_z at c.cross_sum.ensures in
    let kept = simp to_z-of_z at c.loop-at.invariant in
    let s = sums_step a b xs ys i (omega arith) (omega arith) in
    let rest = sums (multiples a (drop (i + 1) xs)) (multiples b (drop (i + 1) ys)) in
    let more = simp to_z-of_z at c.in_ok-push.ensures.items in
    simp to_z-of_z (
    ap (λ (l : List ℤ). l ++ rest) more ∙ (append_assoc c.loop-at.sum.items (c.cross_sum.result ∷ []) rest
    ∙ (ap (λ (z : ℤ). c.loop-at.sum.items ++ z ∷ rest) e
    ∙ (ap (λ (l : List ℤ). c.loop-at.sum.items ++ l) s ∙ kept)))
    )
