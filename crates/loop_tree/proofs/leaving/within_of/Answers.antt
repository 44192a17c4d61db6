use Rattle.scop_syntax.proofs.Common.{rules, ◌≡◌, ◌∙◌, ◌+◌, ◌<◌, ◌++◌, ◌∷◌, [], suc, ℕ, ℤ, pos, List, take, false}
use Rattle.scop_syntax.proofs.Common.{get_or, length, ap, subst, sym, arith, refl, set, to_z, of_z, FitsSigned, w128}
use Rattle.scop_syntax.proofs.Common.{to_z-of_z, take-suc-set}
use Rattle.std.proofs.Common.{length-set}
use Rattle.loop_tree.specs.steps.Going.{Leads, Within}
use Rattle.loop_tree.specs.SpotView.{mark_of, marks_of}
use Rattle.loop_tree.specs.View.{nodes_of}
use Rattle.loop_tree.specs.declared.spot.Mark.{Mark}
use Rattle.loop_tree.proofs.VisitPlaces.{leads_all, leads_within, marks_here}
use Rattle.loop_tree.proofs.leaving.within_of.Goals as goal

pub loop-depth-init : goal.loop-depth-init
loop-depth-init c = (
  omega arith,
  omega arith,
  λ params can.
      leads_all (nodes_of c.args.nodes.now) (marks_of c.args.marks.now) params (take 0 c.args.row.now) refl can,
)

pub loop-depth-preserved : goal.loop-depth-preserved
loop-depth-preserved c =
    let l = c.loop-depth in
    let k = l.depth in
    let ms = c.args.marks.now in
    let other : Mark = record { place = 0; begun = false; value = pos 0; last = pos 0 } in
    let m : Mark = get_or ms k other in
    let x = m.value in
    let y = to_z w128 (of_z w128 x) in
    let here : k < length ms = omega (arith, c.if-marks-depth.false) in
    let room : k < length l.row = c.loop-depth-test.true in
    let fits : FitsSigned w128 x = search rules in
    let kept = length-set l.row k y in
    let within : Within (nodes_of l.at.now) (mark_of m) x (nodes_of c.in-Some.body.now) = c.in-Some.ensures in
    let behind : suc k ≡ k + 1 = omega arith in
    let laid : take k l.row ++ x ∷ [] ≡ take (suc k) (set l.row k y) =
    sym (take-suc-set l.row k y room ∙ ap (λ (z : ℤ). take k l.row ++ z ∷ []) (to_z-of_z w128 x fits)) in
    let ts = nodes_of c.args.nodes.now in
    let marks = marks_of ms in (
      omega (arith, room, kept),
      omega (arith, here),
      λ params can.
          subst (λ (n : ℕ). Leads ts marks params (nodes_of c.in-Some.body.now) n (take n (set l.row k y))) behind
          (subst (λ (values : List ℤ). Leads ts marks params (nodes_of c.in-Some.body.now) (suc k) values) laid
          (leads_within ts (nodes_of l.at.now) (nodes_of c.in-Some.body.now) marks params (take k l.row) k (mark_of m) x
          (marks_here ms k other m refl here) within (l.invariant.2 params can))),
    )
