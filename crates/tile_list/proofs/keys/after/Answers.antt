use Rattle.scop_syntax.proofs.Common.{rules, ◌≡◌, ◌∙◌, ◌∷◌, [], List, ℤ, length, pos, get_or, take, to_z, of_z, ap}
use Rattle.scop_syntax.proofs.Common.{subst, sym, arith, ◌+ℤ◌, All, FitsSigned, w64, to_z-of_z, multiples, sums}
use Rattle.scop_syntax.proofs.Common.{length-multiples}
use Rattle.loop_tree.proofs.Stretches.{each_of_five, sums_front}
use Rattle.tile_list.proofs.Stretches.{take-multiples}
use Rattle.tile_list.proofs.keys.after.Goals as goal

pub returns-clause-instance : goal.returns-clause-instance
returns-clause-instance c =
    let i = c.args.before.now in
    let xs = i.turns in
    let ys = multiples (pos c.args.count) c.args.steps.now in
    let held : ℤ → ℤ = λ z. to_z w64 (of_z w64 z) in
    let rs : List ℤ =
    held c.turn_after.result ∷ held c.turn_after-2.result ∷ held c.turn_after-3.result ∷ held c.turn_after-4.result
    ∷ held c.turn_after-5.result ∷ [] in
    let l : length xs ≡ 5 = search rules in
    let k : length c.args.steps.now ≡ 5 = search rules in
    let m = length-multiples (pos c.args.count) c.args.steps.now in
    let a : FitsSigned w64 c.turn_after.result = search rules in
    let b : FitsSigned w64 c.turn_after-2.result = search rules in
    let d : FitsSigned w64 c.turn_after-3.result = search rules in
    let e : FitsSigned w64 c.turn_after-4.result = search rules in
    let f : FitsSigned w64 c.turn_after-5.result = search rules in
    let each = each_of_five
    (λ n. FitsSigned w64 (get_or xs n (pos 0) +ℤ get_or ys n (pos 0))
    → get_or rs n (pos 0) ≡ get_or xs n (pos 0) +ℤ get_or ys n (pos 0))
    (λ h. to_z-of_z w64 c.turn_after.result a ∙ c.turn_after.ensures h)
    (λ h. to_z-of_z w64 c.turn_after-2.result b ∙ c.turn_after-2.ensures h)
    (λ h. to_z-of_z w64 c.turn_after-3.result d ∙ c.turn_after-3.ensures h)
    (λ h. to_z-of_z w64 c.turn_after-4.result e ∙ c.turn_after-4.ensures h)
    (λ h. to_z-of_z w64 c.turn_after-5.result f ∙ c.turn_after-5.ensures h) in
    let front = take-multiples i.loops (pos c.args.count) c.args.steps.now in
    let sums_are = sums_front i.loops rs xs ys (omega (arith, l)) (omega (arith, k, l, m))
    (λ n h. each n (omega (arith, l, h)))
    (subst (λ (zs : List ℤ). All (FitsSigned w64) (sums (take i.loops xs) zs)) (sym front) c.requires) in
    ap (λ (ts : List ℤ). record { number = i.statement; turns = ts })
    (sums_are ∙ ap (λ (zs : List ℤ). sums (take i.loops xs) zs) front)
