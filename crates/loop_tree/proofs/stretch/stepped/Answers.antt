use Rattle.scop_syntax.proofs.Common.{rules, ◌≡◌, ◌∙◌, ◌∷◌, [], List, ℤ, length, pos, get_or, to_z, of_z, ap, arith}
use Rattle.scop_syntax.proofs.Common.{◌+ℤ◌, FitsSigned, w64, to_z-of_z}
use Rattle.loop_tree.proofs.Stretches.{each_of_five, sums_front}
use Rattle.loop_tree.proofs.stretch.stepped.Goals as goal

pub returns-clause-instance : goal.returns-clause-instance
returns-clause-instance c =
    let i = c.args.instance.now in
    let xs = i.turns in
    let ys = c.args.steps.now in
    let held : ℤ → ℤ = λ z. to_z w64 (of_z w64 z) in
    let rs : List ℤ =
    held c.sum_at.result ∷ held c.sum_at-2.result ∷ held c.sum_at-3.result ∷ held c.sum_at-4.result
    ∷ held c.sum_at-5.result ∷ [] in
    let l : length xs ≡ 5 = search rules in
    let m : length ys ≡ 5 = search rules in
    let a : FitsSigned w64 c.sum_at.result = search rules in
    let b : FitsSigned w64 c.sum_at-2.result = search rules in
    let d : FitsSigned w64 c.sum_at-3.result = search rules in
    let e : FitsSigned w64 c.sum_at-4.result = search rules in
    let f : FitsSigned w64 c.sum_at-5.result = search rules in
    let each = each_of_five
    (λ k. FitsSigned w64 (get_or xs k (pos 0) +ℤ get_or ys k (pos 0))
    → get_or rs k (pos 0) ≡ get_or xs k (pos 0) +ℤ get_or ys k (pos 0))
    (λ h. to_z-of_z w64 c.sum_at.result a ∙ c.sum_at.ensures h)
    (λ h. to_z-of_z w64 c.sum_at-2.result b ∙ c.sum_at-2.ensures h)
    (λ h. to_z-of_z w64 c.sum_at-3.result d ∙ c.sum_at-3.ensures h)
    (λ h. to_z-of_z w64 c.sum_at-4.result e ∙ c.sum_at-4.ensures h)
    (λ h. to_z-of_z w64 c.sum_at-5.result f ∙ c.sum_at-5.ensures h) in
    let sums_are = sums_front i.loops rs xs ys (omega (arith, l)) (omega (arith, l, m))
    (λ k h. each k (omega (arith, l, h))) c.requires in
    ap (λ (ts : List ℤ). record { number = i.statement; turns = ts }) sums_are
