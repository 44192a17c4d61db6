use Rattle.scop_syntax.proofs.Common.{rules, ◌≡◌, ◌∙◌, ℕ, ◌+◌, ◌<◌, ◌≤◌, ◌^◌, length, get_or, subst, sym, FitsSigned}
use Rattle.scop_syntax.proofs.Common.{◌≤ℤ◌, unsigned_abs, w128, to_z-of_z, get_or_same}
use Rattle.plain_scan.specs.declared.outline.Shadow.{Shadow}
use Rattle.plain_scan.specs.declared.set_outline.Outline.{Outline}
use Rattle.plain_scan.proofs.HullRows.{next_at, no_greater}
use Rattle.plain_scan.proofs.hull.ends.Goals as goal

pub loop-outline-preserved : goal.loop-outline-preserved
loop-outline-preserved c =
    let depth = c.args.depth in
    let o = c.outline-item.result in
    let i = c.loop-outline.outline-index in
    let v = c.less-low.result in
    let w = c.greater-high.result in
    let now = c.index-shadow.result.now in
    let fits_v : FitsSigned w128 v = search rules in
    let fits_w : FitsSigned w128 w = search rules in
    let here : depth < length o.shadows.items =
    subst (λ (q : Outline). depth < length q.shadows.items) (sym c.outline-item.is)
    (c.requires.inside i o c.loop-outline-test.true) in
    let shadow = (o.are.each depth now here).small in
    let is : (e : Shadow) → now ≡ get_or o.shadows.items depth e =
    λ e. c.index-shadow.ensures ∙ get_or_same o.shadows.items depth now e here in
    let size_low : unsigned_abs now.low ≤ 2 ^ 40 =
    subst (λ (h : Shadow). unsigned_abs h.low ≤ 2 ^ 40) (sym c.index-shadow.ensures) shadow.0 in
    let size_high : unsigned_abs now.high ≤ 2 ^ 40 =
    subst (λ (h : Shadow). unsigned_abs h.high ≤ 2 ^ 40) (sym c.index-shadow.ensures) shadow.1 in
    let fits_low : FitsSigned w128 now.low = search rules in
    let fits_high : FitsSigned w128 now.high = search rules in
    let lower : v ≤ℤ now.low = simp to_z-of_z at c.less-low.ensures.second in
    let upper : now.high ≤ℤ w = simp to_z-of_z at c.greater-high.ensures.second in
    let lows = next_at (λ (o : Outline). (e : Shadow) → v ≤ℤ (get_or o.shadows.items depth e).low)
    c.args.outlines.now i o c.outline-item.is c.loop-outline-test.true
    (λ k d l e. no_greater v _ _ c.less-low.ensures.first (c.loop-outline.invariant.low k d e l))
    (λ e. subst (λ (h : Shadow). v ≤ℤ h.low) (is e) lower) in
    let highs = next_at (λ (o : Outline). (e : Shadow) → (get_or o.shadows.items depth e).high ≤ℤ w)
    c.args.outlines.now i o c.outline-item.is c.loop-outline-test.true
    (λ k d l e. no_greater _ _ w (c.loop-outline.invariant.high k d e l) c.greater-high.ensures.first)
    (λ e. subst (λ (h : Shadow). h.high ≤ℤ w) (is e) upper) in
    let low : (k : ℕ) (d : Outline) (e : Shadow) → k < i + 1
    → v ≤ℤ (get_or (get_or c.args.outlines.now k d).shadows.items depth e).low = λ k d e l. lows k d l e in
    let high : (k : ℕ) (d : Outline) (e : Shadow) → k < i + 1
    → (get_or (get_or c.args.outlines.now k d).shadows.items depth e).high ≤ℤ w = λ k d e l. highs k d l e in
    let small_low = simp to_z-of_z at c.less-low.ensures.small in
    let small_high = simp to_z-of_z at c.greater-high.ensures.small in
    record {
      low = simp to_z-of_z low;
      high = simp to_z-of_z high;
      small_low = simp to_z-of_z (small_low c.loop-outline.invariant.small_low size_low);
      small_high = simp to_z-of_z (small_high c.loop-outline.invariant.small_high size_high);
    }
