use Rattle.scop_syntax.proofs.Common.{◌∙◌, ◌≡◌, ◌+◌, ◌<◌, ap, get_or, subst, suc, sym, arith, rules, ℤ, [], List}
use Rattle.scop_syntax.proofs.Common.{is_some, slice_get, value_of, wrapped, instance_of}
use Rattle.tile_events.specs.Plan as events
use Rattle.tile_core.specs.Plans.{place_of, plain_shape, walk_shape}
use Rattle.tile_core.proofs.CopiedCells.{as_many_reads, copy_there, few_cells, place_told, rank_inside, read_inside}
use Rattle.tile_core.proofs.CopiedCells.{source_inside, tile_within}
use Rattle.tile_core.proofs.Plans.{plain_is}
use Rattle.tile_core.proofs.TouchedCells.{place_within}
use Rattle.tile_core.proofs.plan.Plan.cell_read.Goals as goal
use Rattle.tile_core.proofs.plan.Plan.cell_read.Goals.{After-cell_at-own, After-cell_read, After-place, After-row}
use Rattle.tile_core.proofs.plan.Plan.cell_read.Goals.{In-None}

-- the read is one of the row's
one_of : (c : After-row) → c.args.read < c.row.result.now.code.reads
one_of c =
    let reads = c.row.ensures.tells.reads in
    let many = as_many_reads c.args.self.now c.requires.plan (place_of c.args.self.now c.args.instance.now) in
    let less = c.requires.read in
    omega (arith, reads, many, less)

pub overflow_add-read : goal.overflow_add-read
overflow_add-read c =
    let few = c.row.ensures.tells.few in
    let less = one_of (goal.at.overflow_add-read c).After-row in
    let room : c.args.read + 1 < 18446744073709551616 = omega (arith, few, less) in
    search rules

pub cell_at-own-requires : goal.cell_at-own-requires
cell_at-own-requires c =
    let some = c.row.ensures.tells.accesses in
    let less = one_of (goal.at.cell_at-own-requires c).After-row in
    omega (arith, some, less)

own : (c : After-cell_at-own) → c.cell_at-own.result
    ≡ get_or ((plain_shape c.args.self.now).read (place_of c.args.self.now c.args.instance.now)) c.args.read 0
own c =
    let row = c.row.result.now in
    let reads = c.row.ensures.tells.reads in
    let many = as_many_reads c.args.self.now c.requires.plan (place_of c.args.self.now c.args.instance.now) in
    let less = c.requires.read in
    c.row.ensures.tells.read c.args.read c.cell_at-own.result (omega (arith, reads, many, less))
    (λ form at. c.cell_at-own.ensures form
    (ap (slice_get row.cells.items) (let q : c.args.read + 1 ≡ suc c.args.read = omega arith in q) ∙ at)
    ∙ ap (λ (ts : List ℤ). wrapped (value_of form ts)) c.turns.ensures)

pub place-requires-clause-tile : goal.place-requires-clause-tile
place-requires-clause-tile c =
    let plan = c.args.self.now in
    tile_within plan c.in-Some.expansion c.in-Some.is c.requires.plan
    (c.walks_are_dealt.ensures.scan plan c.requires.plan) (c.walks_are_dealt.ensures.count plan c.requires.plan)
    c.args.tile c.args.done c.requires.tile c.requires.left

pub place-requires-clause-place : goal.place-requires-clause-place
place-requires-clause-place c =
    let plan = c.args.self.now in
    rank_inside plan c.in-Some.expansion c.in-Some.is c.requires.plan
    (c.walks_are_dealt.ensures.scan plan c.requires.plan) (c.walks_are_dealt.ensures.count plan c.requires.plan)
    c.args.tile c.args.done c.requires.tile c.requires.left

place : (c : After-place) → place_of c.args.self.now c.args.instance.now ≡ c.place.result
place c =
    let plan = c.args.self.now in
    c.requires.place
    ∙ (place_told plan c.in-Some.expansion c.in-Some.is c.requires.plan
    (c.walks_are_dealt.ensures.scan plan c.requires.plan) (c.walks_are_dealt.ensures.count plan c.requires.plan)
    c.args.tile c.args.done c.requires.tile c.requires.left c.place.result c.place.ensures).0

pub cell_read-requires-clause-cells : goal.cell_read-requires-clause-cells
cell_read-requires-clause-cells c = few_cells c.args.self.now c.in-Some.expansion c.in-Some.is c.requires.plan

pub cell_read-requires-clause-read : goal.cell_read-requires-clause-read
cell_read-requires-clause-read c =
    let plan = c.args.self.now in
    let x = c.args.instance.now in
    source_inside plan c.in-Some.expansion c.in-Some.is c.requires.plan (place_of plan x) c.place.result
    (place (goal.at.cell_read-requires-clause-read c).After-place)
    (place_within plan (instance_of x) c.requires.walked) c.args.read c.requires.read

copied : (c : After-cell_read) → place_of c.args.self.now c.args.instance.now ≡ c.place.result
    → c.cell_at-own.result
    ≡ get_or ((plain_shape c.args.self.now).read (place_of c.args.self.now c.args.instance.now)) c.args.read 0
    → c.cell_read.result
    ≡ get_or ((walk_shape c.args.self.now).read (place_of c.args.self.now c.args.instance.now)) c.args.read 0
copied c here is_own =
    let plan = c.args.self.now in
    let x = c.args.instance.now in
    copy_there plan c.in-Some.expansion c.in-Some.is c.requires.plan (place_of plan x) c.place.result
    here (place_within plan (instance_of x) c.requires.walked) c.args.read c.requires.read
    c.cell_at-own.result c.cell_read.result is_own c.cell_read.ensures.none
    c.cell_read.ensures.some

alone : (c : In-None) → c.cell_at-own.result
    ≡ get_or ((plain_shape c.args.self.now).read (place_of c.args.self.now c.args.instance.now)) c.args.read 0
    → c.cell_at-own.result
    ≡ get_or ((walk_shape c.args.self.now).read (place_of c.args.self.now c.args.instance.now)) c.args.read 0
alone c is_own =
    let plan = c.args.self.now in
    is_own
    ∙ ap (λ (q : events.Plan). get_or (q.read (place_of plan c.args.instance.now)) c.args.read 0)
    (sym (plain_is plan [] (ap is_some c.in-None.is)))

pub returns-in-None-clause-cell : goal.returns-in-None-clause-cell
returns-in-None-clause-cell c =
    let at = goal.at.returns-in-None-clause-cell c in alone at.In-None (own at.After-cell_at-own)

pub returns-in-None-clause-inside : goal.returns-in-None-clause-inside
returns-in-None-clause-inside c =
    let plan = c.args.self.now in
    let x = c.args.instance.now in
    let at = goal.at.returns-in-None-clause-inside c in
    subst (λ n. n < (walk_shape plan).cells) (sym (alone at.In-None (own at.After-cell_at-own)))
    (read_inside plan (place_of plan x) c.args.read (c.walks_are_dealt.ensures.dealt plan [] c.requires.plan)
    (place_within plan (instance_of x) c.requires.walked) c.requires.read)

pub returns-in-Some-clause-cell : goal.returns-in-Some-clause-cell
returns-in-Some-clause-cell c =
    let at = goal.at.returns-in-Some-clause-cell c in
    copied at.After-cell_read (place at.After-place) (own at.After-cell_at-own)

pub returns-in-Some-clause-inside : goal.returns-in-Some-clause-inside
returns-in-Some-clause-inside c =
    let plan = c.args.self.now in
    let x = c.args.instance.now in
    let at = goal.at.returns-in-Some-clause-inside c in
    subst (λ n. n < (walk_shape plan).cells)
    (sym (copied at.After-cell_read (place at.After-place) (own at.After-cell_at-own)))
    (read_inside plan (place_of plan x) c.args.read (c.walks_are_dealt.ensures.dealt plan [] c.requires.plan)
    (place_within plan (instance_of x) c.requires.walked) c.requires.read)
