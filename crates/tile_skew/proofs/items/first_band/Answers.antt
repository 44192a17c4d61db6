use Rattle.scop_syntax.proofs.Common.{◌≡◌, ◌∙◌, ◌<◌, sym, subst, ap, arith, length, get_or, length-map, get_or-map}
use Rattle.schedule_rows.specs.Schedule.{item_of}
use Rattle.tile_skew.specs.steps.Listed.{HasStatement}
use Rattle.tile_skew.proofs.ItemSteps.{rows_step}
use Rattle.tile_skew.proofs.items.first_band.Goals as goal

pub push_row-requires : goal.push_row-requires
push_row-requires c =
    let own = c.items-items.result.now in
    let shown = c.items-items.ensures.items in
    let at = c.loop-at.at in
    let item = item_of c.index-items-at.result in
    let place = c.requires.place in
    let less : at < length c.args.schedule.now.items = omega (arith, c.loop-at-test.true) in
    let inside : at < length own = omega (arith, less, length-map own item_of, ap length shown) in
    let is : get_or c.args.schedule.now.items at item ≡ item =
    sym (ap (λ items. get_or items at item) shown)
    ∙ (get_or-map item_of own at c.index-items-at.result item inside ∙ ap item_of (sym c.index-items-at.is)) in
    subst (HasStatement c.args.k) is (c.requires.statement at item less)

pub loop-at-preserved : goal.loop-at-preserved
loop-at-preserved c =
    let schedule = c.args.schedule.now in
    let own = c.items-items.result.now in
    let shown = c.items-items.ensures.items in
    let at = c.loop-at.at in
    let item = item_of c.index-items-at.result in
    let place = c.requires.place in
    let less : at < length schedule.items = omega (arith, c.loop-at-test.true) in
    let inside : at < length own = omega (arith, less, length-map own item_of, ap length shown) in
    let is : get_or schedule.items at item ≡ item =
    sym (ap (λ items. get_or items at item) shown)
    ∙ (get_or-map item_of own at c.index-items-at.result item inside ∙ ap item_of (sym c.index-items-at.is)) in
    rows_step schedule.items schedule.parallel at c.args.behind c.args.k item c.is_parallel.result
    c.loop-at.rows.items c.push_row.new.rows.items _ c.loop-at-test.true place (sym is)
    c.is_parallel.ensures.parallel c.in-Ok.ensures c.loop-at.invariant
