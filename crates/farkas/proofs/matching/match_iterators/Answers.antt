use Rattle.whole_numbers.proofs.Common.{rules, ◌∙◌, List, ap, sym, ◌≡◌, ◌+◌, ◌-◌, ◌++◌, ◌∷◌, [], suc, subst, arith, ℕ}
use Rattle.whole_numbers.proofs.Common.{FitsSigned, Ok, w128, Affine, to_z-of_z}
use Rattle.std.proofs.lemmas.List.{append-nil}
use Rattle.farkas.specs.Claims.{only, iterators}
use Rattle.farkas.specs.Matching.{coefficients_run}
use Rattle.farkas.specs.steps.Questions.{with_more}
use Rattle.farkas.proofs.Steps.{coefficient_more, coefficient_fails}
use Rattle.farkas.proofs.matching.match_iterators.Goals as goal

pub returns-in-Err : goal.returns-in-Err
returns-in-Err c =
    let n = c.args.unknowns in
    let first = c.args.first in
    let k = c.args.factor in
    let fits : FitsSigned w128 c.args.factor = search rules in
    let d = c.loop-depth.depth in
    let m = c.args.loops - 1 - d in
    let s = c.args.system.now in
    let old = c.args.equalities.now.items in
    let front = c.loop-depth.equalities.items in
    let run = coefficients_run c.args.variable (iterators n first k c.args.loops) s in
    let count : c.args.loops - d ≡ suc m = omega arith in
    let kept =
    simp to_z-of_z at c.loop-depth.invariant in
    let failed =
    simp to_z-of_z at c.in-Err.ensures in
    coefficient_fails c.in-Err.stop (c.args.variable + d) (only n (first + m) k) (iterators n first k m) s front old run
    failed
    (subst (λ (j : ℕ). with_more front (coefficients_run (c.args.variable + d) (iterators n first k j) s)
    ≡ with_more old run) count kept)

pub loop-depth-preserved : goal.loop-depth-preserved
loop-depth-preserved c =
    let n = c.args.unknowns in
    let first = c.args.first in
    let k = c.args.factor in
    let fits : FitsSigned w128 c.args.factor = search rules in
    let d = c.loop-depth.depth in
    let m = c.args.loops - 1 - d in
    let s = c.args.system.now in
    let old = c.args.equalities.now.items in
    let front = c.loop-depth.equalities.items in
    let form = c.in-Ok.form in
    let all = with_more old (coefficients_run c.args.variable (iterators n first k c.args.loops) s) in
    let count : c.args.loops - d ≡ suc m = omega arith in
    let left : m ≡ c.args.loops - (d + 1) = omega arith in
    let kept =
    simp to_z-of_z at c.loop-depth.invariant in
    let made =
    simp to_z-of_z at c.in-Ok.ensures in
    let pushed : c.push.new.self.items ≡ front ++ form ∷ [] = search rules in
    let more = coefficient_more (c.args.variable + d) (only n (first + m) k) (iterators n first k m) s front form all
    made
    (subst (λ (j : ℕ). with_more front (coefficients_run (c.args.variable + d) (iterators n first k j) s) ≡ all)
    count kept) in
    let at : c.args.variable + (d + 1) ≡ suc (c.args.variable + d) = omega arith in
    let next : with_more c.push.new.self.items
    (coefficients_run (c.args.variable + (d + 1)) (iterators n first k (c.args.loops - (d + 1))) s) ≡ all =
    rw (pushed, ← left, at) more in
    simp to_z-of_z next

pub returns : goal.returns
returns c =
    let fits : FitsSigned w128 c.args.factor = search rules in
    let front = c.loop-depth.equalities.items in
    let kept = simp to_z-of_z at c.loop-depth.invariant in
    let ended : c.args.loops - c.loop-depth.depth ≡ 0 = omega arith in
    sym kept
    ∙ ap (λ (n : ℕ). with_more front (coefficients_run (c.args.variable + c.loop-depth.depth)
    (iterators c.args.unknowns c.args.first c.args.factor n) c.args.system.now)) ended
    ∙ ap (λ (fs : List Affine). Ok fs) (append-nil front)
