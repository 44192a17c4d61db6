use Rattle.scop_syntax.proofs.Common.{rules, ◌≡◌, ◌∙◌, ℕ, ◌+◌, suc, List, ℤ, ◌++◌, ◌∷◌, [], take, ap, ap₂, sym, arith}
use Rattle.scop_syntax.proofs.Common.{get_or, pos, FitsSigned, w128, to_z-of_z, take_all}
use Rattle.loop_tree.specs.Walk.{max_z}
use Rattle.plain_scan.specs.steps.Weaker.{greater_numbers}
use Rattle.plain_scan.proofs.WeakerRows.{greater_more}
use Rattle.plain_scan.proofs.widest.greater_numbers.Goals as goal

pub loop-at-preserved : goal.loop-at-preserved
loop-at-preserved c =
    let xs = c.args.xs.now in
    let ys = c.args.ys.now in
    let i = c.loop-at.at in
    let fits : FitsSigned w128 c.greater.result = search rules in
    let fits_x : FitsSigned w128 (get_or xs i (pos 0)) = search rules in
    let fits_y : FitsSigned w128 (get_or ys i (pos 0)) = search rules in
    let pushed : c.push.new.self.items ≡ c.loop-at.out.items ++ c.greater.result ∷ [] = search rules in
    let is : c.greater.result ≡ max_z (get_or xs i (pos 0)) (get_or ys i (pos 0)) = simp to_z-of_z at c.greater.ensures.is in
    let one : suc i ≡ i + 1 = omega arith in
    pushed ∙ ap (λ (zs : List ℤ). zs ++ c.greater.result ∷ []) c.loop-at.invariant
    ∙ ap (λ (z : ℤ). greater_numbers (take i xs) (take i ys) ++ z ∷ []) is
    ∙ sym (greater_more xs ys i (pos 0) (pos 0) c.loop-at-test.true c.requires)
    ∙ ap (λ (k : ℕ). greater_numbers (take k xs) (take k ys)) one

pub returns : goal.returns
returns c =
    let xs = c.args.xs.now in
    let ys = c.args.ys.now in
    c.loop-at.invariant
    ∙ ap₂ (λ (ps qs : List ℤ). greater_numbers ps qs) (take_all c.loop-at.at xs (omega arith))
    (take_all c.loop-at.at ys (omega arith))
