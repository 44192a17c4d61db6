use Rattle.scop_syntax.proofs.Common.{rules, ◌∙◌, ◌<◌, ◌≤◌, ◌^◌, ℤ, inl, pos, get_or, subst, All, FitsSigned}
use Rattle.scop_syntax.proofs.Common.{unsigned_abs, w128, to_z-of_z, all_next, get_or_same, In, member_at}
use Rattle.plain_scan.proofs.CodeBounds.{take_all}
use Rattle.plain_scan.proofs.numbers.large_in.Goals as goal

pub returns-then-not-is_small-clause-some : goal.returns-then-not-is_small-clause-some
returns-then-not-is_small-clause-some c =
    let xs = c.coefficients-number-items.result.now in
    let i = c.loop-number.number-index in
    let z = get_or xs i (pos 0) in
    let fits : FitsSigned w128 z = search rules in
    let large : 2 ^ 40 < unsigned_abs z = search rules in
    let there : In z c.args.form.now.coefficients =
    subst (In z) c.coefficients-number-items.ensures
    (member_at xs i z (get_or_same xs i (pos 0) z c.loop-number-test.true) c.loop-number-test.true) in
    simp to_z-of_z (large, inl there)

pub loop-number-preserved : goal.loop-number-preserved
loop-number-preserved c =
    let xs = c.coefficients-number-items.result.now in
    let i = c.loop-number.number-index in
    let z = get_or xs i (pos 0) in
    let fits : FitsSigned w128 z = search rules in
    let small : unsigned_abs z ≤ 2 ^ 40 = search rules in
    all_next (λ (z : ℤ). unsigned_abs z ≤ 2 ^ 40) xs i z (get_or_same xs i (pos 0) z c.loop-number-test.true)
    c.loop-number-test.true c.loop-number.invariant small

pub returns-then-is_small-clause-none : goal.returns-then-is_small-clause-none
returns-then-is_small-clause-none c e =
    let xs = c.coefficients-number-items.result.now in
    let fits : FitsSigned w128 c.args.form.now.constant = search rules in
    let small : unsigned_abs c.args.form.now.constant ≤ 2 ^ 40 = search rules in (
      subst (All (λ z. unsigned_abs z ≤ 2 ^ 40))
          (take_all xs c.loop-number.number-index c.loop-number-test.false ∙ c.coefficients-number-items.ensures)
          c.loop-number.invariant,
      small,
    )
