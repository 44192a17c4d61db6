use Rattle.scop_syntax.proofs.Common.{◌≡◌, ◌^◌, ◌≤◌, ℤ, List, [], ◌∷◌, ◌++◌, pos, get_or, ap₂, subst, sym, ◌∙◌, rules}
use Rattle.scop_syntax.proofs.Common.{unsigned_abs, take_more}
use Rattle.tree_simplification.proofs.Heads.{at_most_more}
use Rattle.tree_simplification.proofs.single.numbers.narrow_numbers.Goals as goal

pub loop-number-preserved : goal.loop-number-preserved
loop-number-preserved c =
    let xs = c.args.numbers.now in
    let i = c.loop-number.number-index in
    let narrow : ℤ = c.in-Some.narrow in
    let same : narrow ≡ get_or xs i (pos 0) = search rules in
    let small : unsigned_abs narrow ≤ 2 ^ 45 = search rules in
    let pushed : c.push.new.list.items ≡ c.loop-number.narrowed.items ++ narrow ∷ [] = search rules in (
      pushed
          ∙ (ap₂ (λ (ys : List ℤ) (y : ℤ). ys ++ y ∷ []) c.loop-number.invariant.0 same
          ∙ sym (take_more xs i (pos 0) c.loop-number-test.true)),
      at_most_more (2 ^ 45) xs i (pos 0) c.loop-number-test.true c.loop-number.invariant.1
          (subst (λ (y : ℤ). unsigned_abs y ≤ 2 ^ 45) same small),
    )
