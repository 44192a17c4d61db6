use Rattle.whole_numbers.proofs.Common.{rules, ◌≡◌, ◌+◌, ◌-◌, ◌<◌, ◌++◌, ◌∷◌, [], suc, subst, arith, ℕ, pos, add-one}
use Rattle.whole_numbers.proofs.Common.{FitsSigned, Ok, w128, to_z-of_z}
use Rattle.affine_forms.specs.Gives.{Fails}
use Rattle.farkas.specs.declared.matching.Entry.TheVariants as entry
use Rattle.farkas.specs.Claims.{only, parameters}
use Rattle.farkas.specs.Matching.{matched_run, coefficients_run}
use Rattle.farkas.specs.steps.Questions.{with_more}
use Rattle.farkas.proofs.Steps.{coefficient_more, coefficient_fails}
use Rattle.farkas.proofs.matching.match_parameters.Goals as goal

pub returns-in-Err : goal.returns-in-Err
returns-in-Err c =
    let n = c.args.unknowns in
    let k = c.args.factor in
    let fits : FitsSigned w128 c.args.factor = search rules in
    let i = c.loop-place.place in
    let s = c.args.system.now in
    let p = s.parameters in
    let end = c.parameters-place-end.ensures in
    let inside : i < p = subst (λ (j : ℕ). i < j) end c.loop-place-test.true in
    let m = p - 1 - i in
    let old = c.args.equalities.now.items in
    let front = c.loop-place.equalities.items in
    let run = coefficients_run s.dimensions (parameters n 0 k p) s in
    let count : p - i ≡ suc m = omega arith in
    let kept =
    simp to_z-of_z at c.loop-place.invariant in
    let told =
    simp to_z-of_z at c.in-Err.ensures in
    let failed = subst (λ (j : ℕ). Fails c.in-Err.stop (matched_run (entry.Coefficient (j + i)) (only n i k) (pos 0) s))
    c.dimensions-variable.ensures told in
    coefficient_fails c.in-Err.stop (s.dimensions + i) (only n i k) (parameters n (suc i) k m) s front old run failed
    (subst (λ (j : ℕ). with_more front (coefficients_run (s.dimensions + i) (parameters n i k j) s) ≡ with_more old run)
    count kept)

pub loop-place-preserved : goal.loop-place-preserved
loop-place-preserved c =
    let n = c.args.unknowns in
    let k = c.args.factor in
    let fits : FitsSigned w128 c.args.factor = search rules in
    let i = c.loop-place.place in
    let s = c.args.system.now in
    let p = s.parameters in
    let end = c.parameters-place-end.ensures in
    let inside : i < p = subst (λ (j : ℕ). i < j) end c.loop-place-test.true in
    let m = p - 1 - i in
    let old = c.args.equalities.now.items in
    let front = c.loop-place.equalities.items in
    let form = c.in-Ok.form in
    let all = with_more old (coefficients_run s.dimensions (parameters n 0 k p) s) in
    let count : p - i ≡ suc m = omega arith in
    let left : m ≡ p - (i + 1) = omega arith in
    let kept =
    simp to_z-of_z at c.loop-place.invariant in
    let told =
    simp to_z-of_z at c.in-Ok.ensures in
    let made = subst (λ (j : ℕ). matched_run (entry.Coefficient (j + i)) (only n i k) (pos 0) s ≡ Ok form)
    c.dimensions-variable.ensures told in
    let pushed : c.push.new.self.items ≡ front ++ form ∷ [] = search rules in
    let more = coefficient_more (s.dimensions + i) (only n i k) (parameters n (suc i) k m) s front form all made
    (subst (λ (j : ℕ). with_more front (coefficients_run (s.dimensions + i) (parameters n i k j) s) ≡ all) count
    kept) in
    let at : s.dimensions + (i + 1) ≡ suc (s.dimensions + i) = omega arith in
    let next : with_more c.push.new.self.items
    (coefficients_run (s.dimensions + (i + 1)) (parameters n (i + 1) k (p - (i + 1))) s) ≡ all =
    rw (pushed, ← left, at, add-one i) more in
    simp to_z-of_z next
