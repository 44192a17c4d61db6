use Rattle.whole_numbers.proofs.Common.{rules, ◌≡◌, ◌+◌, ◌-◌, ◌<◌, ◌++◌, ◌∷◌, [], suc, subst, arith, ℕ, zeros}
use Rattle.farkas.specs.Claims.{nones}
use Rattle.farkas.specs.Matching.{coefficients_run}
use Rattle.farkas.specs.steps.Questions.{with_more}
use Rattle.farkas.proofs.Steps.{coefficient_more, coefficient_fails}
use Rattle.farkas.proofs.matching.match_nones.Goals as goal

pub returns-in-Err : goal.returns-in-Err
returns-in-Err c =
    let n = c.args.unknowns in
    let i = c.loop-at.at in
    let s = c.args.system.now in
    let inside : i < c.args.count = c.loop-at-test.true in
    let m = c.args.count - 1 - i in
    let old = c.args.equalities.now.items in
    let front = c.loop-at.equalities.items in
    let run = coefficients_run c.args.variable (nones n c.args.count) s in
    let count : c.args.count - i ≡ suc m = omega arith in
    coefficient_fails c.in-Err.stop (c.args.variable + i) (zeros n) (nones n m) s front old run c.in-Err.ensures
    (subst (λ (j : ℕ). with_more front (coefficients_run (c.args.variable + i) (nones n j) s) ≡ with_more old run)
    count c.loop-at.invariant)

pub loop-at-preserved : goal.loop-at-preserved
loop-at-preserved c =
    let n = c.args.unknowns in
    let i = c.loop-at.at in
    let s = c.args.system.now in
    let inside : i < c.args.count = c.loop-at-test.true in
    let m = c.args.count - 1 - i in
    let old = c.args.equalities.now.items in
    let front = c.loop-at.equalities.items in
    let form = c.in-Ok.form in
    let all = with_more old (coefficients_run c.args.variable (nones n c.args.count) s) in
    let count : c.args.count - i ≡ suc m = omega arith in
    let left : m ≡ c.args.count - (i + 1) = omega arith in
    let pushed : c.push.new.self.items ≡ front ++ form ∷ [] = search rules in
    let more = coefficient_more (c.args.variable + i) (zeros n) (nones n m) s front form all c.in-Ok.ensures
    (subst (λ (j : ℕ). with_more front (coefficients_run (c.args.variable + i) (nones n j) s) ≡ all) count
    c.loop-at.invariant) in
    let at : c.args.variable + (i + 1) ≡ suc (c.args.variable + i) = omega arith in
    let next : with_more c.push.new.self.items
    (coefficients_run (c.args.variable + (i + 1)) (nones n (c.args.count - (i + 1))) s) ≡ all =
    rw (pushed, ← left, at) more in
    next
