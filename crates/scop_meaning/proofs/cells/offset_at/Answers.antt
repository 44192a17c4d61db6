use Rattle.scop_syntax.proofs.Common.{◌+◌, ◌*◌, ◌<◌, length, get_or, sym, subst, refl, arith, ap, ◌∙◌, pos, ◌≤ℤ◌, ◌<ℤ◌}
use Rattle.scop_syntax.proofs.Common.{length-map, value_of, values, size_of}
use Rattle.scop_meaning.proofs.Offsets.{
  OffsetSoFar,
  subscript_at,
  dimension_at,
  offset_next,
  offset_within,
  offset_whole,
}
use Rattle.scop_meaning.proofs.cells.offset_at.Goals as goal

pub loop-at-init : goal.loop-at-init
loop-at-init c = record { within = c.requires.within; value = refl; below = omega arith }

pub bounds-extents-at : goal.bounds-extents-at
bounds-extents-at c =
    let vs = values c.args.subscripts.now c.args.point.now in
    let h : c.loop-at.at < length vs = omega
    (arith, length-map c.args.subscripts.now (λ form. value_of form c.args.point.now), c.loop-at-test.true) in
    (dimension_at c.args.extents.now vs c.loop-at.at c.loop-at.invariant.within h).is

pub next_offset-offset-requires-clause-low : goal.next_offset-offset-requires-clause-low
next_offset-offset-requires-clause-low c =
    let vs = values c.args.subscripts.now c.args.point.now in
    let h : c.loop-at.at < length vs = omega
    (arith, length-map c.args.subscripts.now (λ form. value_of form c.args.point.now), c.loop-at-test.true) in
    let s = subscript_at c.args.subscripts.now c.args.point.now c.loop-at.at c.index-subscripts-at.result
    c.index-subscripts-at.is c.loop-at-test.true in
    subst (λ z. pos 0 ≤ℤ z) s (dimension_at c.args.extents.now vs c.loop-at.at c.loop-at.invariant.within h).low

pub next_offset-offset-requires-clause-high : goal.next_offset-offset-requires-clause-high
next_offset-offset-requires-clause-high c =
    let vs = values c.args.subscripts.now c.args.point.now in
    let h : c.loop-at.at < length vs = omega
    (arith, length-map c.args.subscripts.now (λ form. value_of form c.args.point.now), c.loop-at-test.true) in
    let s = subscript_at c.args.subscripts.now c.args.point.now c.loop-at.at c.index-subscripts-at.result
    c.index-subscripts-at.is c.loop-at-test.true in
    subst (λ z. z <ℤ pos (get_or c.args.extents.now c.loop-at.at 0)) s
    (dimension_at c.args.extents.now vs c.loop-at.at c.loop-at.invariant.within h).high

pub next_offset-offset-requires-clause-room : goal.next_offset-offset-requires-clause-room
next_offset-offset-requires-clause-room c =
    let es = c.args.extents.now in
    let vs = values c.args.subscripts.now c.args.point.now in
    let h : c.loop-at.at < length vs = omega
    (arith, length-map c.args.subscripts.now (λ form. value_of form c.args.point.now), c.loop-at-test.true) in
    let s = subscript_at c.args.subscripts.now c.args.point.now c.loop-at.at c.index-subscripts-at.result
    c.index-subscripts-at.is c.loop-at-test.true in
    let next = offset_next es vs c.loop-at.at c.loop-at.offset h c.loop-at.invariant in
    let below = offset_within es vs (c.loop-at.at + 1)
    (c.loop-at.offset * get_or es c.loop-at.at 0 + size_of (get_or vs c.loop-at.at (pos 0))) next in
    let e = ap size_of s in
    let few = c.requires.count in
    omega arith

pub loop-at-preserved : goal.loop-at-preserved
loop-at-preserved c =
    let es = c.args.extents.now in
    let vs = values c.args.subscripts.now c.args.point.now in
    let h : c.loop-at.at < length vs = omega
    (arith, length-map c.args.subscripts.now (λ form. value_of form c.args.point.now), c.loop-at-test.true) in
    let s = subscript_at c.args.subscripts.now c.args.point.now c.loop-at.at c.index-subscripts-at.result
    c.index-subscripts-at.is c.loop-at-test.true in
    let next = offset_next es vs c.loop-at.at c.loop-at.offset h c.loop-at.invariant in
    let e = ap (λ n. c.loop-at.offset * get_or es c.loop-at.at 0 + size_of n) s in
    subst (OffsetSoFar es vs (c.loop-at.at + 1)) (e ∙ sym c.next_offset-offset.ensures) next

pub returns-clause-offset : goal.returns-clause-offset
returns-clause-offset c =
    let vs = values c.args.subscripts.now c.args.point.now in
    let l = length-map c.args.subscripts.now (λ form. value_of form c.args.point.now) in
    let past = c.loop-at-test.false in
    offset_whole c.args.extents.now vs c.loop-at.at c.loop-at.offset (omega arith) c.loop-at.invariant

pub returns-clause-below : goal.returns-clause-below
returns-clause-below c = offset_within c.args.extents.now (values c.args.subscripts.now c.args.point.now)
    c.loop-at.at c.loop-at.offset c.loop-at.invariant
