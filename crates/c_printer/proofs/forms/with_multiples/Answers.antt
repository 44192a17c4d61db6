use Rattle.scop_syntax.proofs.Common.{rules, ◌≡◌, ◌∙◌, ◌<◌, ◌≤◌, pos, length, get_or, ap₂, FitsSigned, ℤ, ◌+ℤ◌, ◌*ℤ◌}
use Rattle.scop_syntax.proofs.Common.{max, w64, w128, to_z-of_z}
use Rattle.c_printer.proofs.Multiples.{sums_more, sums_all}
use Rattle.c_printer.proofs.forms.with_multiples.Goals as goal

pub loop-at-preserved : goal.loop-at-preserved
loop-at-preserved c =
    let l = c.loop-at in
    let xs = c.args.entries.now in
    let ys = c.args.others.now in
    let k = c.args.factor in
    let fit : FitsSigned w64 k = c.ranges.factor in
    let fit_x : FitsSigned w64 c.entry_at.result = search rules in
    let fit_y : FitsSigned w64 c.entry_at-in-loop-at.result = search rules in
    let fit_z : FitsSigned w128 c.with_multiple-entry.result = search rules in
    let x : c.entry_at.result ≡ get_or xs l.at (pos 0) = c.entry_at.ensures in
    let y : c.entry_at-in-loop-at.result ≡ get_or ys l.at (pos 0) = c.entry_at-in-loop-at.ensures in
    let made = simp to_z-of_z at c.with_multiple-entry.ensures in
    let pushed = simp to_z-of_z at c.in-Ok.ensures.items in
    let so_far = simp to_z-of_z at l.invariant in
    let is : c.with_multiple-entry.result ≡ get_or xs l.at (pos 0) +ℤ (k *ℤ get_or ys l.at (pos 0)) =
    made ∙ ap₂ (λ (a b : ℤ). a +ℤ (k *ℤ b)) x y in
    let h : l.at < max (length xs) (length ys) = search rules in
    simp to_z-of_z (sums_more k xs ys l.all.items _ _ l.at c.with_multiple-entry.result h pushed is so_far)

pub returns : goal.returns
returns c =
    let l = c.loop-at in
    let xs = c.args.entries.now in
    let ys = c.args.others.now in
    let fit : FitsSigned w64 c.args.factor = c.ranges.factor in
    let so_far = simp to_z-of_z at l.invariant in
    let h : max (length xs) (length ys) ≤ l.at = search rules in
    sums_all c.args.factor xs ys l.all.items _ l.at h so_far
