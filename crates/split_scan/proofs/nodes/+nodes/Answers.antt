use Rattle.scop_syntax.proofs.Common.{◌≡◌, ◌+◌, ◌-◌, ◌<◌, ◌++◌, ◌∙◌, [], suc, ap, sym, subst, All, arith, ap₂, ℕ, List}
use Rattle.scop_syntax.proofs.Common.{map, length, rules, refl, get_or, All-append, IfOk-weaker, Affine, widened}
use Rattle.affine_forms.specs.Parts.{variables_of}
use Rattle.integer_sets.specs.Scanned.{Scanned}
use Rattle.loop_tree.specs.View.{nodes_of, tree_of, trees_of}
use Rattle.plain_scan.specs.Hulls.{IsAlike, sets_in}
use Rattle.plain_scan.specs.Sets.{NumbersRise, IsShaped}
use Rattle.plain_scan.specs.steps.Pieces.{loops_of}
use Rattle.plain_scan.proofs.CodeBounds.{take_all}
use Rattle.plain_scan.proofs.HullNodes.{few_variables, node_end}
use Rattle.split_scan.specs.steps.Questions.{AreNatural, IsCut}
use Rattle.split_scan.specs.steps.Ordering.{AreParts}
use Rattle.plain_scan.specs.steps.Nodes.{IsNode}
use Rattle.split_scan.specs.steps.Parts.{IsPart, staying}
use Rattle.split_scan.specs.declared.part.Part.{Part}
use Rattle.split_scan.specs.steps.Frames.{HasBodies, frame_of, inside_of, pieces_of}
use Rattle.split_scan.proofs.PartLoops.{node_of}
use Rattle.split_scan.proofs.OutlineCopies.{sets_count}
use Rattle.split_scan.proofs.InnerNodes.{all_staying, bodies_next, frame_is, natural_more, rise_staying, shaped_alike}
use Rattle.split_scan.proofs.InnerNodes.{shaped_dims, trees_are}
use Rattle.split_scan.proofs.nodes.+nodes.Goals as goal
use Rattle.split_scan.proofs.nodes.+nodes.Goals.{After-deref-in-loop-part-5}

pub leaves-requires : goal.leaves-requires
leaves-requires t c =
    few_variables c.args.place c.args.left c.args.shape.now.parameters c.args.outlines.now c.requires.sets
    c.requires.few

pub returns-then-left-eq0 : goal.returns-then-left-eq0
returns-then-left-eq0 t c =
    IfOk-weaker c.leaves.result _ _ (λ v h. node_end c.args.left c.args.place c.args.shape.now.parameters
    c.args.shape.now.parallel c.args.outlines.now c.args.context.now (nodes_of v.items) c.if-left-eq0.true
    c.requires.sets c.requires.rise h) c.leaves.ensures

pub bars-requires-clause-alike : goal.bars-requires-clause-alike
bars-requires-clause-alike t c =
    shaped_alike c.args.place c.args.left c.args.shape.now.parameters c.args.outlines.now c.requires.sets (omega arith)

pub bars-requires-clause-place : goal.bars-requires-clause-place
bars-requires-clause-place t c =
    shaped_dims c.args.place c.args.left c.args.shape.now.parameters c.args.outlines.now c.requires.sets (omega arith)

pub parts_of-requires-clause-alike : goal.parts_of-requires-clause-alike
parts_of-requires-clause-alike t c =
    let level = c.in_ok-level.level in
    let e = c.in_ok-level.ensures in
    let a = e.place in
    let b = e.parameters in
    let n : c.args.place + 1 + c.args.shape.now.parameters ≡ level.place + 1 + level.parameters = omega (arith, a, b) in
    subst (λ k. All (IsAlike (c.args.left - 1) k) c.args.outlines.now) n
    (shaped_alike c.args.place c.args.left c.args.shape.now.parameters c.args.outlines.now c.requires.sets
    (omega arith))

pub parts_of-requires-clause-dimensions : goal.parts_of-requires-clause-dimensions
parts_of-requires-clause-dimensions t c =
    let e = c.in_ok-level.ensures in
    subst (λ m. All (λ o. o.set.now.system.dimensions ≡ m + suc (c.args.left - 1)) c.args.outlines.now) (sym e.place)
    (shaped_dims c.args.place c.args.left c.args.shape.now.parameters c.args.outlines.now c.requires.sets (omega arith))

pub loop-part-init : goal.loop-part-init
loop-part-init t c low high others is =
    record { bodies = []; is = ap (map tree_of) c.new-out.ensures.items; nodes = tt }

-- the part of this turn, its sets, and what is known within its loop
part_there : (t : ℕ) (c : After-deref-in-loop-part-5 t)
    → (c.part-item.result ≡ get_or c.in_ok-parts.parts.items c.loop-part.part-index c.part-item.result)
    × (c.loop-part.part-index < length c.in_ok-parts.parts.items)
part_there t c =
    let items = c.deref-part-items.ensures.value in (
      subst (λ (xs : List Part). c.part-item.result ≡ get_or xs c.loop-part.part-index c.part-item.result) items
          c.part-item.is,
      subst (λ (xs : List Part). c.loop-part.part-index < length xs) items c.loop-part-test.true,
    )

parts_there : (t : ℕ) (c : After-deref-in-loop-part-5 t)
    → AreParts c.args.place (c.args.place + 1 + c.args.shape.now.parameters) c.in_ok-level.level.inside.items
    (sets_in c.args.outlines.now) c.in_ok-parts.parts.items
parts_there t c = rw (c.in_ok-level.ensures.place, c.in_ok-level.ensures.parameters) at c.in_ok-parts.ensures

alive_there : (t : ℕ) (c : After-deref-in-loop-part-5 t) → sets_in c.deref-in-loop-part-4.result.now
    ≡ staying c.part-item.result.stays.items (sets_in c.args.outlines.now)
alive_there t c =
    ap sets_in c.deref-in-loop-part-4.ensures.value ∙ c.in_ok-alive.ensures
    ∙ ap (λ bs. staying bs (sets_in c.args.outlines.now)) c.deref-in-loop-part.ensures.value

inner_there : (t : ℕ) (c : After-deref-in-loop-part-5 t) → c.deref-in-loop-part-5.result.now
    ≡ c.in_ok-level.level.inside.items ++ c.part-item.result.cuts.items
inner_there t c =
    c.deref-in-loop-part-5.ensures.value ∙ c.in_ok-inner.ensures
    ∙ ap₂ (λ (fs gs : List Affine). fs ++ gs) c.deref-in-loop-part-2.ensures.value c.deref-in-loop-part-3.ensures.value

pub nodes-requires : goal.nodes-requires
nodes-requires t c =
    let before = (goal.at.nodes-requires t c).After-deref-in-loop-part-5 in
    let all = sets_in c.args.outlines.now in
    let level = c.in_ok-level.level in
    let part = c.part-item.result in
    let place = c.args.place in
    let p = c.args.shape.now.parameters in
    let depth = c.args.left - 1 in
    let alive = alive_there t before in
    let inner = inner_there t before in
    let is = part_there t before in
    let parts = parts_there t before in
    let one = subst (IsPart place (place + 1 + p) level.inside.items all) (sym is.0)
    (parts.parts c.loop-part.part-index part is.1) in
    let some = subst (λ (q : Part). 0 < length (staying q.stays.items all)) (sym is.0)
    (parts.some c.loop-part.part-index part is.1) in
    let count = sets_count c.deref-in-loop-part-4.result.now in
    let stay = ap (λ (ss : List Scanned). length ss) alive in
    let few = c.requires.few in
    let dims : place + c.args.left ≡ place + 1 + depth = omega arith in
    let e = c.in_ok-level.ensures in
    let smaller : depth < t = search rules in
    let P : Affine → Type 0 = λ f. variables_of f ≡ place + 1 + p in
    let a = e.place in
    let b = e.parameters in (
      smaller,
      (
        omega (arith, count, stay, some),
        (
          omega (arith, few),
          (
            subst (λ n. All (IsShaped n p) (sets_in c.deref-in-loop-part-4.result.now)) dims
                (subst (All (IsShaped (place + c.args.left) p)) (sym alive)
                (all_staying (IsShaped (place + c.args.left) p) part.stays.items all c.requires.sets)),
            (
              subst NumbersRise (sym alive) (rise_staying part.stays.items all c.requires.rise),
              (
                subst (All P) (sym inner) (All-append P level.inside.items part.cuts.items
                    (λ k d i. let s = level.sized k d i in omega (arith, s, a, b)) (λ k d i. (one.cuts k d i).sized)),
                λ natural. subst (AreNatural (place + 1)) (sym inner)
                    (natural_more (place + 1) level.inside.items part.cuts.items
                    (subst (λ m. AreNatural (m + 1) level.inside.items) e.place (level.not_negative natural))),
              ),
            ),
          ),
        ),
      ),
    )

pub push_loop-requires-clause-inside : goal.push_loop-requires-clause-inside
push_loop-requires-clause-inside t c =
    let before = (goal.at.push_loop-requires-clause-inside t c).After-deref-in-loop-part-5 in
    let all = sets_in c.args.outlines.now in
    let n = c.args.place + 1 + c.args.shape.now.parameters in
    let is = part_there t before in
    let parts = parts_there t before in
    let one = subst (IsPart c.args.place n c.in_ok-level.level.inside.items all) (sym is.0)
    (parts.parts c.loop-part.part-index c.part-item.result is.1) in (
      n,
      omega arith,
      subst (All (IsCut c.args.place n)) (sym c.deref-in-loop-part-6.ensures.value) c.in_ok-rows.ensures.cuts,
      subst (All (IsCut c.args.place n)) (sym c.deref-in-loop-part-7.ensures.value) one.cuts,
    )

pub loop-part-preserved : goal.loop-part-preserved
loop-part-preserved t c low high others is =
    let before = (goal.at.loop-part-preserved t c).After-deref-in-loop-part-5 in
    let place = c.args.place in
    let p = c.args.shape.now.parameters in
    let mark = c.args.shape.now.parallel in
    let all = sets_in c.args.outlines.now in
    let context = c.args.context.now in
    let depth = c.args.left - 1 in
    let part = c.part-item.result in
    let f = frame_of place p mark all context low high others in
    let level = c.in_ok-level.level in
    let body = nodes_of c.in_ok-body.body.items in
    let inside : level.inside.items ≡ inside_of f =
    c.in_ok-level.ensures.inside ∙ ap (λ (rows : List Affine). map (widened place) context ++ rows)
    (c.deref.ensures.value ∙ is) in
    let inner = inner_there t before ∙ ap (λ (fs : List Affine). fs ++ part.cuts.items) inside in
    let one : place + 1 ≡ suc place = omega arith in
    let node = subst (λ m. IsNode depth m (place + 1 + p) mark (staying part.stays.items all)
    (inside_of f ++ part.cuts.items) body) one
    (subst (λ fs. IsNode depth (place + 1) (place + 1 + p) mark (staying part.stays.items all) fs body) inner
    (subst (λ ss. IsNode depth (place + 1) (place + 1 + p) mark ss c.deref-in-loop-part-5.result.now body)
    (alive_there t before)
    c.in_ok-body.ensures)) in
    let made = c.in_ok-push_loop.ensures _ _ others (c.deref-in-loop-part-6.ensures.value ∙ is) in
    bodies_next depth mark f c.deref-part-items.result.now c.loop-part.part-index part body
    (map tree_of c.loop-part.out.items) (map tree_of c.push_loop.new.out.items) c.part-item.is
    c.loop-part-test.true node
    (rw (c.eq.ensures, c.deref-in-loop-part-7.ensures.value) at made) (c.loop-part.invariant low high others is)

pub returns : goal.returns
returns t c =
    let place = c.args.place in
    let p = c.args.shape.now.parameters in
    let mark = c.args.shape.now.parallel in
    let os = c.args.outlines.now in
    let all = sets_in os in
    let context = c.args.context.now in
    let bars = c.in_ok-rows.ensures in
    let f = frame_of place p mark all context bars.low bars.high bars.others in
    let ps = c.in_ok-parts.parts.items in
    let ts = map tree_of c.loop-part.out.items in
    let level = c.in_ok-level.level in
    let has = subst (λ (qs : List Part). HasBodies (c.args.left - 1) mark f qs ts)
    (take_all c.deref-part-items.result.now c.loop-part.part-index c.loop-part-test.false
    ∙ c.deref-part-items.ensures.value) (c.loop-part.invariant bars.low bars.high bars.others bars.is) in
    let frame = frame_is c.args.left place p mark os context c.in_ok-rows.rows.items c.requires.sets (omega arith)
    bars in
    let inside : level.inside.items ≡ inside_of f =
    c.in_ok-level.ensures.inside ∙ ap (λ (rows : List Affine). map (widened place) context ++ rows)
    (c.deref.ensures.value ∙ bars.is) in
    let parts : AreParts place (place + 1 + p) level.inside.items all ps =
    rw (c.in_ok-level.ensures.place, c.in_ok-level.ensures.parameters) at c.in_ok-parts.ensures in
    let node = node_of (c.args.left - 1) (place + p) mark f ps has.bodies frame (omega arith) refl
    (subst (λ fs. AreParts place (place + 1 + p) fs all ps) inside parts) has.nodes in
    let trees : trees_of ts ≡ loops_of place (pieces_of f ps has.bodies) =
    ap trees_of has.is ∙ trees_are place (pieces_of f ps has.bodies) in
    let one : suc (c.args.left - 1) ≡ c.args.left = omega arith in
    subst (λ k. IsNode k place (place + p) mark all context (trees_of ts)) one
    (subst (IsNode (suc (c.args.left - 1)) place (place + p) mark all context) (sym trees) node)
