use Rattle.scop_syntax.proofs.Common.{rules, ◌≡◌, ◌∙◌, ◌+◌, ◌<◌, ◌≤◌, ◌⊎◌, ◌++◌, ◌∷◌, [], inl, inr, suc, ℕ, ℤ, pos}
use Rattle.scop_syntax.proofs.Common.{List, take, false, get_or, length, ap, subst, sym, arith, refl, set, to_z, of_z}
use Rattle.scop_syntax.proofs.Common.{FitsSigned, w128, to_z-of_z, take-suc-set}
use Rattle.std.proofs.Common.{length-set}
use Rattle.std.proofs.lemmas.List.{take-set-le}
use Rattle.loop_tree.specs.steps.Going.{Leads, Within}
use Rattle.loop_tree.specs.SpotView.{mark_of, marks_of}
use Rattle.loop_tree.specs.View.{nodes_of}
use Rattle.loop_tree.specs.declared.spot.Mark.{Mark}
use Rattle.loop_tree.proofs.VisitPlaces.{leads_all, leads_moved, leads_within, marks_here}
use Rattle.loop_tree.proofs.near.near_of.Goals as goal

pub loop-depth-init : goal.loop-depth-init
loop-depth-init c = (
  omega arith,
  omega arith,
  omega arith,
  λ params can. (
    leads_all (nodes_of c.args.nodes.now) (marks_of c.args.marks.now) params (take 0 c.args.row.now) refl can,
    leads_all (nodes_of c.args.nodes.now) (marks_of c.args.marks.now) params (take 0 c.args.row.now) refl can,
  ),
)

pub loop-depth-preserved : goal.loop-depth-preserved
loop-depth-preserved c =
    let l = c.loop-depth in
    let k = l.depth in
    let ms = c.args.marks.now in
    let other : Mark = record { place = 0; begun = false; value = pos 0; last = pos 0 } in
    let m : Mark = get_or ms k other in
    let x = m.value in
    let y = to_z w128 (of_z w128 x) in
    let here : k < length ms = omega (arith, c.if-marks-depth.false) in
    let room : k < length l.row = c.loop-depth-test.true in
    let fits : FitsSigned w128 x = search rules in
    let kept = length-set l.row k y in
    let depth = c.nearer-found.result.depth in
    let found = c.nearer-found.ensures in
    let inside = c.loop-depth.invariant in
    let fewer : depth ≤ k = search rules in
    let within : Within (nodes_of l.at.now) (mark_of m) x (nodes_of c.in-Some.body.now) = c.in-Some.ensures in
    let behind : suc k ≡ k + 1 = omega arith in
    let laid : take k l.row ++ x ∷ [] ≡ take (suc k) (set l.row k y) =
    sym (take-suc-set l.row k y room ∙ ap (λ (z : ℤ). take k l.row ++ z ∷ []) (to_z-of_z w128 x fits)) in
    let alike : take depth (set l.row k y) ≡ take depth l.row = take-set-le depth l.row k y fewer in
    let ts = nodes_of c.args.nodes.now in
    let marks = marks_of ms in (
      omega (arith, room, kept),
      omega (arith, here),
      omega (arith, fewer),
      λ params can.
          let leads = inside.3 params can in (
            subst (λ (n : ℕ). Leads ts marks params (nodes_of c.in-Some.body.now) n (take n (set l.row k y))) behind
                (subst (λ (values : List ℤ). Leads ts marks params (nodes_of c.in-Some.body.now) (suc k) values) laid
                (leads_within ts (nodes_of l.at.now) (nodes_of c.in-Some.body.now) marks params (take k l.row) k (mark_of m) x
                (marks_here ms k other m refl here) within leads.0)),
            found-case found (λ here_is. leads_moved ts marks params l.row (set l.row k y) l.at.now
                c.nearer-found.result.nodes.now k depth here_is.1 here_is.0 alike leads.0)
                (λ out_is. leads_moved ts marks params l.row (set l.row k y) l.found.nodes.now c.nearer-found.result.nodes.now
                l.found.depth depth out_is.1 out_is.0 alike leads.1),
          ),
    )
  where
    found-case : {A B C : Type 0} → A ⊎ B → (A → C) → (B → C) → C
    found-case (inl a) f g = f a
    found-case (inr b) f g = g b
