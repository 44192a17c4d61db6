use Rattle.scop_syntax.proofs.Common.{rules, ◌≡◌, ◌∙◌, ◌-◌, ◌<◌, suc, length, arith, to_z, of_z, FitsSigned, w128}
use Rattle.scop_syntax.proofs.Common.{to_z-of_z}
use Rattle.std.proofs.Common.{length-set}
use Rattle.loop_tree.proofs.Chains.{laid_one, length_within}
use Rattle.loop_tree.proofs.outer.lay.Goals as goal

pub loop-at-preserved : goal.loop-at-preserved
loop-at-preserved c =
    let l = c.loop-at in
    let x = c.in-Within.value in
    let some = c.if-start-eq0.false in
    let room = l.invariant.0 in
    let fits : FitsSigned w128 x = search rules in
    let next : l.start ≡ suc (l.start - 1) = omega (arith, some) in
    let inside : l.start - 1 < length l.row = omega (arith, next, room) in
    let kept = length-set l.row (l.start - 1) (to_z w128 (of_z w128 x)) in (
      omega (arith, inside, kept),
      laid_one l.at.now c.in-Within.inner x (to_z w128 (of_z w128 x)) l.row (l.start - 1) l.start c.in-Within.is
          (to_z-of_z w128 x fits) next inside
          ∙ l.invariant.1,
    )

pub loop-at-smaller : goal.loop-at-smaller
loop-at-smaller c =
    let l = length_within c.loop-at.at.now c.in-Within.inner c.in-Within.value c.in-Within.is in omega (arith, l)
