use Rattle.std.proofs.Common.{rules, ◌≡◌, ◌∙◌, arith, ℕ, ℤ, pos, suc, ◌+◌, ◌<◌, List, ◌++◌, ◌∷◌, [], take, drop, get_or}
use Rattle.std.proofs.Common.{FitsSigned, add-one, drop-cons, append_assoc, map, set, length}
use Rattle.std.specs.Int.{w128}
use Rattle.std.proofs.lemmas.Int.{to_z-of_z}
use Rattle.std.proofs.lemmas.List.{take_more_set, drop-set-lt}
use Rattle.wide_math.specs.Floor.{floor}
use Rattle.affine_forms.proofs.row.divide_row.Goals as goal

-- one more entry in front is done
mapped_step : (h : ℤ → ℤ) (row : List ℤ) (i : ℕ) (z : ℤ) → i < length row → z ≡ h (get_or row i (pos 0))
    → take (i + 1) (set row i z) ++ map h (drop (i + 1) (set row i z)) ≡ take i row ++ map h (drop i row)
mapped_step h row i z inside e =
    rw (
      take_more_set row i z inside,
      drop-set-lt (i + 1) row i z (omega arith),
      drop-cons row i
          (pos 0) inside,
      e,
      add-one i,
    )
    (append_assoc (take i row) (h (get_or row i (pos 0)) ∷ []) (map h (drop (suc i) row)))

pub loop-at-preserved : goal.loop-at-preserved
loop-at-preserved c =
    let row = c.loop-at.row in
    let i = c.loop-at.at in
    let h : ℤ → ℤ = λ x. floor x (pos c.args.divisor) in
    let fits : FitsSigned w128 c.quotient.result = search rules in
    let fits_x : FitsSigned w128 (get_or row i (pos 0)) = search rules in
    let fits_d = c.ranges.divisor in
    let q = simp to_z-of_z at c.quotient.ensures in
    simp to_z-of_z (mapped_step h row i c.quotient.result (omega arith) q ∙ c.loop-at.invariant)
