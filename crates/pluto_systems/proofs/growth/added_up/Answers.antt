use Rattle.scop_syntax.proofs.Common.{◌≡◌, ◌+◌, ◌<◌, ◌*◌, ◌^◌, ℤ, List, [], map, Vec, Global, get_or, length, drop, sym}
use Rattle.scop_syntax.proofs.Common.{◌∙◌, ap, subst, arith, length-map, All-get_or, sums, length-sums}
use Rattle.null_space.specs.Sizes.{AreWithin}
use Rattle.pluto_systems.specs.Posing.{added}
use Rattle.pluto_systems.proofs.Steps.{added_step, sums_within}
use Rattle.pluto_systems.proofs.growth.added_up.Goals as goal

pub loop-at-preserved : goal.loop-at-preserved
loop-at-preserved c =
    let vs = map (λ (v : Vec ℤ Global). v.items) c.args.vectors.now in
    let i = c.loop-at.at in
    let k = length-map c.args.vectors.now (λ (v : Vec ℤ Global). v.items) in
    let inside : i < length vs = omega arith in
    let old = c.loop-at.sum.items in
    let v = get_or vs i [] in
    let n = length (get_or vs 0 []) in
    let size : length v ≡ n = All-get_or (λ (u : List ℤ). length u ≡ n) vs i [] inside c.requires.lengths in
    let great : AreWithin (2 ^ 109) v = All-get_or (AreWithin (2 ^ 109)) vs i [] inside c.requires.sizes in
    let is : c.in_ok-sum-2.sum.items ≡ sums old v = subst2 c.deref.ensures.value c.vector_at-in-loop-at.ensures
    c.in_ok-sum-2.ensures in
    let e = c.loop-at.invariant.0 in (
      ap length is ∙ (length-sums old v (e ∙ sym size) ∙ e),
      added_step old c.in_ok-sum-2.sum.items vs i (added (get_or vs 0 []) (drop 1 vs)) inside is c.loop-at.invariant.1,
      subst (AreWithin ((i + 1) * 2 ^ 109)) (sym is)
          (sums_within ((i + 1) * 2 ^ 109) (i * 2 ^ 109) (2 ^ 109) old v (omega arith) (e
          ∙ sym size) c.loop-at.invariant.2 great),
    )
  where
    subst2 : {x y a b z : List ℤ} → a ≡ x → b ≡ y → z ≡ sums a b → z ≡ sums x y
    subst2 {x} {y} {a} {b} {z} p q e = e ∙ (ap (λ u. sums u b) p ∙ ap (λ u. sums x u) q)
