use Rattle.scop_syntax.proofs.Common.{◌≡◌, ◌∙◌, ◌+◌, ◌<◌, sym, subst, ap, arith, length, map, drop, All, length-map}
use Rattle.scop_syntax.proofs.Common.{all_unmapped}
use Rattle.iteration_domains.specs.Model.{Modelled}
use Rattle.schedule_rows.specs.Posed.{loops_of}
use Rattle.schedule_rows.specs.Schedule.{item_of, loops_in, items_of}
use Rattle.schedule_rows.specs.Sized.{AreSized}
use Rattle.tile_skew.specs.steps.Sizes.{FitItems}
use Rattle.tile_skew.specs.steps.Listed.{HasStatement, IsInside, AreBounds, leading_in, item_at}
use Rattle.tile_skew.proofs.ItemParts.{band_inside, bounds_are, ends_within, items_have, told_items}
use Rattle.tile_skew.proofs.ItemFits.{items_fit}
use Rattle.tile_skew.proofs.items.statement.Goals.{After-items-items}
use Rattle.tile_skew.proofs.items.statement.Goals as goal

-- the schedule's items have few loops and small numbers
sized : (c : After-items-items) → AreSized (loops_in c.args.schedule.now.model) c.items-items.ensures.schedule.blocks
sized c =
    let schedule = c.args.schedule.now in
    let is = c.items-items.ensures.schedule in
    c.schedules_have_small_items.ensures schedule.model.parameters (loops_in schedule.model) schedule.deps is.blocks is.run

many : (c : After-items-items)
    → length c.items-items.result.now ≡ 0 + length (items_of c.items-items.ensures.schedule.blocks)
many c =
    sym (length-map c.items-items.result.now item_of)
    ∙ (ap length (c.items-items.ensures.items ∙ c.items-items.ensures.schedule.items) ∙ omega arith)

-- each has a number for the statement
have : (c : After-items-items) → All (HasStatement c.args.k) c.args.schedule.now.items
have c =
    let schedule = c.args.schedule.now in
    let is = c.items-items.ensures.schedule in
    let k = c.args.k in
    let within = c.requires in
    let here : k < length (loops_in schedule.model) =
    omega (arith, within, length-map schedule.model.statements (λ (s : Modelled). s.domain.dimensions)) in
    subst (All (HasStatement k)) (sym is.items) (items_have (loops_in schedule.model) is.blocks k here (sized c))

own : (c : After-items-items) → All (λ i. HasStatement c.args.k (item_of i)) c.items-items.result.now
own c =
    let P = HasStatement c.args.k in
    all_unmapped P item_of c.items-items.result.now (subst (All P) (sym c.items-items.ensures.items) (have c))

pub band_bounds-first-requires : goal.band_bounds-first-requires
band_bounds-first-requires c =
    let at = (goal.at.band_bounds-first-requires c).After-items-items in
    let is = c.items-items.ensures.schedule in
    let count = length c.items-items.result.now in
    subst (λ bs. IsInside bs count) (sym (c.bands.ensures ∙ is.bands))
    (band_inside (loops_in c.args.schedule.now.model) is.blocks 0 count (sized at) (many at))

pub leading-requires : goal.leading-requires
leading-requires c = own (goal.at.leading-requires c).After-items-items

pub first_band-requires-clause-place : goal.first_band-requires-clause-place
first_band-requires-clause-place c =
    let at = (goal.at.first_band-requires-clause-place c).After-items-items in
    let is = c.items-items.ensures.schedule in
    let count = length c.items-items.result.now in
    let first = c.band_bounds-first.result.0 in
    let behind = c.band_bounds-first.result.1 in
    let bounds = bounds_are (loops_in c.args.schedule.now.model) is.blocks 0 count first behind (sized at) (many at)
    (subst (λ bs. AreBounds bs count first behind) (c.bands.ensures ∙ is.bands) c.band_bounds-first.ensures) in
    let few = ends_within is.blocks in
    let whole = ap length is.items in
    omega (arith, bounds.1, few, whole)

pub first_band-requires-clause-statement : goal.first_band-requires-clause-statement
first_band-requires-clause-statement c = have (goal.at.first_band-requires-clause-statement c).After-items-items

pub tile_items-requires : goal.tile_items-requires
tile_items-requires c = own (goal.at.tile_items-requires c).After-items-items

pub returns-clause-items : goal.returns-clause-items
returns-clause-items c s =
    let schedule = c.args.schedule.now in
    let own = c.items-items.result.now in
    let shown = c.items-items.ensures.items in
    let k = c.args.k in
    let sized = c.schedules_have_small_items.ensures schedule.model.parameters (loops_in schedule.model) schedule.deps
    s.blocks s.run in
    let many : length own ≡ length schedule.items = sym (length-map own item_of) ∙ ap length shown in
    told_items (loops_in schedule.model) s.blocks k c.band_bounds-first.result.0 c.band_bounds-first.result.1
    (length own) schedule.items schedule.parallel c.bands.result.now _ _ _ sized s.items s.parallel
    (c.bands.ensures ∙ s.bands) many c.band_bounds-first.ensures
    (c.in_ok-leading.ensures ∙ ap (λ zs. leading_in zs k) shown) c.in_ok-first_band.ensures
    (c.in_ok-tile_items.ensures ∙ ap (λ zs. map (item_at k) (drop c.band_bounds-first.result.1 zs)) shown)

pub returns-clause-fit : goal.returns-clause-fit
returns-clause-fit c =
    let is = c.items-items.ensures.schedule in
    let loops = loops_in c.args.schedule.now.model in
    subst (FitItems (loops_of loops c.args.k)) (sym (returns-clause-items c is))
    (items_fit loops is.blocks c.args.k (sized (goal.at.returns-clause-fit c).After-items-items))
