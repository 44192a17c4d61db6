use Rattle.std.proofs.Common.{rules, ◌∙◌, sym, ap, arith, ℕ, pos, drop, get_or, FitsSigned, add-one, drop-cons}
use Rattle.std.specs.Int.{w128}
use Rattle.std.proofs.lemmas.Int.{to_z-of_z}
use Rattle.wide_math.specs.Content.{content_from}
use Rattle.wide_math.proofs.Contents.{gcd_of_same, content_from_one}
use Rattle.affine_forms.proofs.row.content.Goals as goal

pub returns-then-content-eq1 : goal.returns-then-content-eq1
returns-then-content-eq1 c =
    sym (content_from_one (drop c.loop-at.at c.args.row.now))
    ∙ ap (λ (n : ℕ). content_from n (drop c.loop-at.at c.args.row.now)) (sym c.if-content-eq1.true)
    ∙ c.loop-at.invariant

pub loop-at-preserved : goal.loop-at-preserved
loop-at-preserved c =
    let row = c.args.row.now in
    let i = c.loop-at.at in
    let fits_x : FitsSigned w128 (get_or row i (pos 0)) = search rules in
    let size = simp to_z-of_z at c.unsigned_abs.ensures.value in
    let g = gcd_of_same c.loop-at.content c.unsigned_abs.result c.gcd_of_sizes-content.result
    c.gcd_of_sizes-content.ensures in
    let inv = rw (drop-cons row i (pos 0) (omega arith), ← (add-one i)) at c.loop-at.invariant in
    rw (g, size) inv
