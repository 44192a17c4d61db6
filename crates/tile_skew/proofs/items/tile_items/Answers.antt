use Rattle.scop_syntax.proofs.Common.{◌≡◌, ◌∙◌, ◌++◌, ◌∷◌, [], ◌<◌, sym, ap, arith, length, map, length-map, get_or-map}
use Rattle.scop_syntax.proofs.Common.{map-append}
use Rattle.loop_tree.specs.TilingView.{item_of as tile_item_of}
use Rattle.schedule_rows.specs.Schedule.{item_of}
use Rattle.tile_skew.specs.steps.Listed.{item_at}
use Rattle.tile_skew.proofs.ItemSteps.{mapped_step}
use Rattle.tile_skew.proofs.items.tile_items.Goals as goal

pub loop-at-preserved : goal.loop-at-preserved
loop-at-preserved c =
    let items = c.args.items.now in
    let at = c.loop-at.at in
    let k = c.args.k in
    let item = item_of c.index-items-at.result in
    let inside : at < length items = omega (arith, c.loop-at-test.true) in
    let less : at < length (map item_of items) = omega (arith, inside, length-map items item_of) in
    let is = get_or-map item_of items at c.index-items-at.result item inside ∙ ap item_of (sym c.index-items-at.is) in
    let made = c.in_ok-tile_item.field-0 in
    let now : map tile_item_of c.push.new.self.items
    ≡ map tile_item_of c.loop-at.found.items ++ item_at k item ∷ [] =
    ap (map tile_item_of) c.in_ok-push.ensures.items
    ∙ (map-append tile_item_of c.loop-at.found.items (made ∷ [])
    ∙ ap (λ z. map tile_item_of c.loop-at.found.items ++ z ∷ []) c.in_ok-tile_item.ensures) in
    mapped_step (item_at k) (map item_of items) at item (map tile_item_of c.loop-at.found.items)
    (map tile_item_of c.push.new.self.items) _ less is now c.loop-at.invariant
