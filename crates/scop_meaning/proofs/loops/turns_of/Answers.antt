use Rattle.scop_syntax.proofs.Common.{◌≡◌, ◌/◌, ◌+◌, List, arith, rules, ap, ap₂, subst, sym, ◌∙◌, ℤ, pos, ◌≤ℤ◌}
use Rattle.scop_syntax.proofs.Common.{FitsSigned, unsigned_abs, w64, ints, to_z-of_z, Affine, value_of, Head, RunsFor}
use Rattle.scop_syntax.proofs.Common.{condition_at}
use Rattle.scop_meaning.proofs.Turns.{runs_head}
use Rattle.scop_meaning.proofs.loops.turns_of.Goals as goal

pub returns-else-condition-lt0-clause-turns : goal.returns-else-condition-lt0-clause-turns
returns-else-condition-lt0-clause-turns c =
    let head = c.args.head.now in
    let point = c.args.point.now.items in
    let z = c.exact_at-condition.result in
    let s = c.head.inside.stride in
    let fit : FitsSigned w64 z = search rules in
    let fits_stride : FitsSigned w64 s = search rules in
    let at : c.as_slice.result.now ≡ _ = c.as_slice.ensures.value ∙ c.enter_turn.ensures in
    let form = ap (λ (h : Head). h.condition) c.head.view_is in
    let first : z ≡ condition_at head point (pos 0) =
    c.exact_at-condition.ensures ∙ ap₂ (λ (f : Affine) (x : List ℤ). value_of f x) form at in
    let raw = simp to_z-of_z at c.unsigned_abs.ensures.value in
    let stride : c.unsigned_abs.result ≡ unsigned_abs head.stride = raw
    ∙ ap (λ (h : Head). unsigned_abs h.stride) c.head.view_is in
    let back = to_z-of_z w64 z fit in
    let up : pos 0 ≤ℤ z = grind (arith, ints) in
    let runs = runs_head head point z c.requires.head up first in
    simp to_z-of_z (subst (λ n. RunsFor (λ k. condition_at head point (pos k)) (unsigned_abs z / n + 1))
    (sym stride) runs)
