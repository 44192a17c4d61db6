use Rattle.whole_numbers.proofs.Common.{◌≡◌, ◌∙◌, ap, sym, subst, drop, List, ℤ, ℕ, arith}
use Rattle.checked_tableau.specs.Nodes.{all_zero, same_list}
use Rattle.pip_solver.proofs.LineParts.{same-then, same-else}
use Rattle.pip_solver.proofs.bounds.same_list.Goals as goal

pub returns-then-all_zero : goal.returns-then-all_zero
returns-then-all_zero c =
    let xs = c.args.xs.now in
    let ys = c.args.ys.now in
    let k = c.lesser-common.result in
    let at : c.loop-at.at ≡ k = omega arith in
    let kept = subst (λ (i : ℕ). same_list (drop i xs) (drop i ys) ≡ same_list xs ys) at c.loop-at.invariant in
    c.all_zero-then-all_zero.ensures ∙ ap (λ (zs : List ℤ). all_zero zs) c.split_at-2.ensures.back
    ∙ same-then xs ys k c.lesser-common.ensures.one kept
    (ap (λ (zs : List ℤ). all_zero zs) (sym c.split_at.ensures.back) ∙ sym c.all_zero.ensures ∙ c.if-all_zero.true)

pub returns-else-all_zero : goal.returns-else-all_zero
returns-else-all_zero c =
    let xs = c.args.xs.now in
    let ys = c.args.ys.now in
    let k = c.lesser-common.result in
    let at : c.loop-at.at ≡ k = omega arith in
    let kept = subst (λ (i : ℕ). same_list (drop i xs) (drop i ys) ≡ same_list xs ys) at c.loop-at.invariant in
    c.if-all_zero.false
    ∙ same-else xs ys k c.lesser-common.ensures.one kept
    (ap (λ (zs : List ℤ). all_zero zs) (sym c.split_at.ensures.back) ∙ sym c.all_zero.ensures ∙ c.if-all_zero.false)
