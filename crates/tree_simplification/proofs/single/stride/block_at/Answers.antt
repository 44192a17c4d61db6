use Rattle.tree_simplification.proofs.Common.{◌+◌, ◌-◌, List, length, subst, sym, IfOk-weaker, Affine, BoundsAreOver}
use Rattle.tree_simplification.proofs.Common.{bounds_in, CanBound, blocks}
use Rattle.tree_simplification.proofs.Strides.{blocks_over, ends_named}
use Rattle.tree_simplification.proofs.single.stride.block_at.Goals as goal

pub ends_at-requires : goal.ends_at-requires
ends_at-requires c =
    let p = c.args.place.now in
    let n = p.kept + p.parameters in
    let head = c.args.head.now in
    let turns = c.args.turns in
    let forms = p.forms.items in
    let can = c.requires.can in
    let here : CanBound n forms (bounds_in c.in_ok-low.low) (bounds_in c.in_ok-high.high) =
    record {
      low = subst (BoundsAreOver (length forms)) (sym c.in_ok-low.ensures.bounds)
          (blocks_over (length forms) turns (turns - 1) (bounds_in head.lower) can.low);
      high = subst (BoundsAreOver (length forms)) (sym c.in_ok-high.ensures.bounds)
          (blocks_over (length forms) turns 0 (bounds_in head.upper) can.high);
      low_numbers = c.in_ok-low.ensures.small;
      high_numbers = c.in_ok-high.ensures.small;
      sized = can.sized;
    } in
    subst (λ (fs : List Affine). CanBound n fs (bounds_in c.in_ok-low.low) (bounds_in c.in_ok-high.high))
    (sym c.as_slice.ensures.value) here

pub returns : goal.returns
returns c =
    let p = c.args.place.now in
    let n = p.kept + p.parameters in
    let head = c.args.head.now in
    let turns = c.args.turns in
    IfOk-weaker c.ends_at.result _ _
    (λ ends known.
    ends_named n p.forms.items c.as_slice.result.now (blocks turns (turns - 1) (bounds_in head.lower))
    (blocks turns 0 (bounds_in head.upper)) (bounds_in c.in_ok-low.low) (bounds_in c.in_ok-high.high)
    (bounds_in ends.lower) (bounds_in ends.upper) c.as_slice.ensures.value c.in_ok-low.ensures.bounds
    c.in_ok-high.ensures.bounds known)
    c.ends_at.ensures
