use Rattle.scop_syntax.proofs.Common.{◌∙◌, ◌≡◌, ◌+◌, ◌<◌, ap, subst, sym, arith, rules, ℤ, [], List, is_some, value_of}
use Rattle.scop_syntax.proofs.Common.{wrapped, instance_of}
use Rattle.tile_events.specs.Plan as events
use Rattle.tile_core.specs.Plans.{place_of, walk_shape}
use Rattle.tile_core.proofs.CopiedCells.{copy_fits, place_told, rank_inside, tile_within, written_there}
use Rattle.tile_core.proofs.Plans.{plain_is}
use Rattle.tile_core.proofs.TouchedCells.{place_within}
use Rattle.tile_core.proofs.plan.Plan.cell_written.Goals as goal
use Rattle.tile_core.proofs.plan.Plan.cell_written.Goals.{After-cell_at, After-place}

pub cell_at-requires : goal.cell_at-requires
cell_at-requires c = let some = c.row.ensures.tells.accesses in omega (arith, some)

own : (c : After-cell_at) → c.cell_at.result ≡ (walk_shape c.args.self.now).written (place_of c.args.self.now c.args.instance.now)
own c =
    let plan = c.args.self.now in
    c.row.ensures.tells.written c.cell_at.result
    (λ form at. c.cell_at.ensures form at ∙ ap (λ (ts : List ℤ). wrapped (value_of form ts)) c.turns.ensures)
    ∙ ap (λ (q : events.Plan). q.written (place_of plan c.args.instance.now)) (sym (plain_is plan [] (ap is_some c.in-None.is)))

pub place-requires-clause-tile : goal.place-requires-clause-tile
place-requires-clause-tile c =
    let plan = c.args.self.now in
    tile_within plan c.in-Some.expansion c.in-Some.is c.requires.plan
    (c.walks_are_dealt.ensures.scan plan c.requires.plan) (c.walks_are_dealt.ensures.count plan c.requires.plan)
    c.args.tile c.args.done c.requires.tile c.requires.left

pub place-requires-clause-place : goal.place-requires-clause-place
place-requires-clause-place c =
    let plan = c.args.self.now in
    rank_inside plan c.in-Some.expansion c.in-Some.is c.requires.plan
    (c.walks_are_dealt.ensures.scan plan c.requires.plan) (c.walks_are_dealt.ensures.count plan c.requires.plan)
    c.args.tile c.args.done c.requires.tile c.requires.left

place : (c : After-place) → place_of c.args.self.now c.args.instance.now ≡ c.place.result
place c =
    let plan = c.args.self.now in
    c.requires.place
    ∙ (place_told plan c.in-Some.expansion c.in-Some.is c.requires.plan
    (c.walks_are_dealt.ensures.scan plan c.requires.plan) (c.walks_are_dealt.ensures.count plan c.requires.plan)
    c.args.tile c.args.done c.requires.tile c.requires.left c.place.result c.place.ensures).0

pub overflow_add-result : goal.overflow_add-result
overflow_add-result c =
    let plan = c.args.self.now in
    let x = c.args.instance.now in
    let fits : c.in-Some.expansion.now.cells + c.place.result < 18446744073709551616 =
    copy_fits plan c.in-Some.expansion c.in-Some.is c.requires.plan (place_of plan x) c.place.result
    (place (goal.at.overflow_add-result c).After-place) (place_within plan (instance_of x) c.requires.walked) in
    search rules

pub returns-in-None-clause-cell : goal.returns-in-None-clause-cell
returns-in-None-clause-cell c = own (goal.at.returns-in-None-clause-cell c).After-cell_at

pub returns-in-None-clause-inside : goal.returns-in-None-clause-inside
returns-in-None-clause-inside c =
    let plan = c.args.self.now in
    let x = c.args.instance.now in
    subst (λ n. n < (walk_shape plan).cells) (sym (own (goal.at.returns-in-None-clause-inside c).After-cell_at))
    ((c.walks_are_dealt.ensures.dealt plan [] c.requires.plan).written (place_of plan x)
    (place_within plan (instance_of x) c.requires.walked))

copied : (c : After-place) → c.in-Some.expansion.now.cells + c.place.result
    ≡ (walk_shape c.args.self.now).written (place_of c.args.self.now c.args.instance.now)
copied c =
    let plan = c.args.self.now in
    let x = c.args.instance.now in
    written_there plan c.in-Some.expansion c.in-Some.is c.requires.plan (place_of plan x) c.place.result (place c)
    (place_within plan (instance_of x) c.requires.walked)

pub returns-in-Some-clause-cell : goal.returns-in-Some-clause-cell
returns-in-Some-clause-cell c = copied (goal.at.returns-in-Some-clause-cell c).After-place

pub returns-in-Some-clause-inside : goal.returns-in-Some-clause-inside
returns-in-Some-clause-inside c =
    let plan = c.args.self.now in
    let x = c.args.instance.now in
    subst (λ n. n < (walk_shape plan).cells) (sym (copied (goal.at.returns-in-Some-clause-inside c).After-place))
    ((c.walks_are_dealt.ensures.dealt plan [] c.requires.plan).written (place_of plan x)
    (place_within plan (instance_of x) c.requires.walked))
