use Rattle.scop_syntax.proofs.Common.{◌<◌, ◌+◌, ◌∷◌, ◌∙◌, map, drop, drop_of_length-le, ap, sym, subst, arith, length}
use Rattle.scop_syntax.proofs.Common.{drop_more}
use Rattle.loop_tree.specs.TilingView.{item_of}
use Rattle.tile_skew.specs.ScanSets.{have_values, item_form}
use Rattle.tile_skew.specs.steps.Sizes.{FitsItem}
use Rattle.tile_skew.proofs.ItemSteps.{values_step, nothing_left}
use Rattle.tile_skew.proofs.sets.push_items.Goals as goal

pub push_item-requires-clause-small : goal.push_item-requires-clause-small
push_item-requires-clause-small c =
    let inside : c.loop-at.at < length c.args.items.now = omega (arith, c.loop-at-test.true) in
    let item = c.index-items-at.result in
    subst (λ i. FitsItem c.args.scattering.now.layout.turns (item_of i)) (sym c.index-items-at.is)
    (c.requires.small c.loop-at.at item inside)

pub loop-at-preserved : goal.loop-at-preserved
loop-at-preserved c =
    let l = c.args.scattering.now.layout in
    let at = c.loop-at.at in
    let items = c.args.items.now in
    let item = c.index-items-at.result in
    let inside : at < length items = omega (arith, c.loop-at-test.true) in
    let rest = map (item_form l) (map item_of (drop (at + 1) items)) in
    let there = ap (λ is. map (item_form l) (map item_of is)) (drop_more items at item inside)
    ∙ ap (λ i. item_form l (item_of i) ∷ rest) (sym c.index-items-at.is) in
    values_step l c.args.first at (item_form l (item_of item)) _ rest c.loop-at.out.items c.push_item.new.out.items _
    there c.in_ok-push_item.ensures c.loop-at.invariant

pub returns : goal.returns
returns c =
    let l = c.args.scattering.now.layout in
    nothing_left c.loop-at.out.items _ _
    (ap (λ is. have_values l (c.args.first + c.loop-at.at) (map (item_form l) (map item_of is)))
    (drop_of_length-le c.args.items.now (omega (arith, c.loop-at-test.false))))
    c.loop-at.invariant
