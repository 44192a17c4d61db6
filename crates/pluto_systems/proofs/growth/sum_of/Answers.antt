use Rattle.scop_syntax.proofs.Common.{rules, ◌+◌, ◌*◌, ◌^◌, ◌<◌, pos, ◌∙◌, ap, arith, FitsSigned, get_or, drop, length}
use Rattle.scop_syntax.proofs.Common.{List, ◌∷◌, [], ◌++◌, ℤ, append_assoc, w128, to_z-of_z, All-get_or, sums}
use Rattle.null_space.specs.Sizes.{IsWithin}
use Rattle.pluto_systems.proofs.Steps.{sums_step}
use Rattle.pluto_systems.proofs.growth.sum_of.Goals as goal

pub sum_of_two-requires-clause-a : goal.sum_of_two-requires-clause-a
sum_of_two-requires-clause-a c =
    let xs = c.args.sum.now in
    let i = c.loop-at.at in
    let inside : i < length xs = omega arith in
    let fits_x : FitsSigned w128 (get_or xs i (pos 0)) = search rules in
    let a = All-get_or (IsWithin (4 * 2 ^ 109)) xs i (pos 0) inside c.requires.sum in
    simp to_z-of_z a

pub sum_of_two-requires-clause-b : goal.sum_of_two-requires-clause-b
sum_of_two-requires-clause-b c =
    let xs = c.args.vector.now in
    let i = c.loop-at.at in
    let inside : i < length xs = omega arith in
    let fits_x : FitsSigned w128 (get_or xs i (pos 0)) = search rules in
    let a = All-get_or (IsWithin (2 ^ 109)) xs i (pos 0) inside c.requires.vector in
    simp to_z-of_z a

pub loop-at-preserved : goal.loop-at-preserved
loop-at-preserved c =
    let xs = c.args.sum.now in
    let ys = c.args.vector.now in
    let i = c.loop-at.at in
    let fits_x : FitsSigned w128 (get_or xs i (pos 0)) = search rules in
    let fits_y : FitsSigned w128 (get_or ys i (pos 0)) = search rules in
    let fits : FitsSigned w128 c.sum_of_two.result = search rules in
    let e = simp to_z-of_z at c.sum_of_two.ensures in
    let s = sums_step xs ys i (omega arith) (omega arith) in
    let rest = sums (drop (i + 1) xs) (drop (i + 1) ys) in
    let more = simp to_z-of_z at c.in_ok-push.ensures.items in
    ap (λ (l : List ℤ). l ++ rest) more ∙ (append_assoc c.loop-at.both.items (c.sum_of_two.result ∷ []) rest
    ∙ (ap (λ (z : ℤ). c.loop-at.both.items ++ z ∷ rest) e ∙ (ap (λ (l : List ℤ). c.loop-at.both.items ++ l) s
    ∙ c.loop-at.invariant)))
