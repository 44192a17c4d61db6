use Rattle.scop_syntax.proofs.Common.{◌≡◌, ◌<◌, [], rules, subst, sym, instance_of, program_of}
use Rattle.loop_tree.specs.SpotView.{to_come}
use Rattle.loop_tree.specs.TilingView.{tiling_of}
use Rattle.loop_tree.specs.View.{trees_in}
use Rattle.tile_table.specs.Desks.{HasRoomForAll}
use Rattle.tile_table.proofs.NextPlaces.{NextPlace, next_place, next_walked, row_within}
use Rattle.tile_table.proofs.Visits.{WalkLaws}
use Rattle.tile_edges.specs.steps.Walks.{cells_at}
use Rattle.tile_edges.proofs.PassedPlaces.{can_take, cells_told, found_all, found_many, step_on}
use Rattle.tile_edges.proofs.walking.pass_rest.Goals as goal
use Rattle.tile_edges.proofs.walking.pass_rest.Goals.{In-Some}

-- the place that comes next
next : (c : In-Some) → NextPlace (program_of c.args.kernel.now) c.args.params.now c.loop-instance.invariant.way.done
    (instance_of c.in-Some.instance) (to_come (trees_in c.args.source.now) c.args.params.now c.next.new.self)
next c =
    let ts = trees_in c.args.source.now in
    next_place (program_of c.args.kernel.now) c.args.params.now c.loop-instance.invariant.way.done
    (instance_of c.in-Some.instance) (to_come ts c.args.params.now c.loop-instance.spot)
    (to_come ts c.args.params.now c.next.new.self) c.in-Some.ensures.rest c.loop-instance.invariant.way.left

laws : In-Some → WalkLaws
laws c = record {
  found = c.instances_are_those_of_statements.ensures.found;
  turns = c.instances_are_those_of_statements.ensures.turns;
  number = c.statements_are_numbered.ensures.number;
}

pub pass-requires-clause-row : goal.pass-requires-clause-row
pass-requires-clause-row c =
    let at = (goal.at.pass-requires-clause-row c).In-Some in
    row_within (program_of c.args.kernel.now) c.args.params.now c.args.table.now c.requires.can.told (laws at)
    c.loop-instance.invariant.way.done (instance_of c.in-Some.instance)
    (to_come (trees_in c.args.source.now) c.args.params.now c.next.new.self) (next at)

pub pass-requires-clause-fits : goal.pass-requires-clause-fits
pass-requires-clause-fits c =
    let x = instance_of c.in-Some.instance in
    c.requires.can.fits x (next_walked (program_of c.args.kernel.now) c.args.params.now
    c.loop-instance.invariant.way.done x (to_come (trees_in c.args.source.now) c.args.params.now c.next.new.self)
    (next (goal.at.pass-requires-clause-fits c).In-Some))

pub pass-requires-clause-there : goal.pass-requires-clause-there
pass-requires-clause-there c =
    let x = instance_of c.in-Some.instance in
    c.requires.can.there x (next_walked (program_of c.args.kernel.now) c.args.params.now
    c.loop-instance.invariant.way.done x (to_come (trees_in c.args.source.now) c.args.params.now c.next.new.self)
    (next (goal.at.pass-requires-clause-there c).In-Some))

pub pass-requires-clause-take : goal.pass-requires-clause-take
pass-requires-clause-take c row told =
    let program = program_of c.args.kernel.now in
    let params = c.args.params.now in
    let tiling = tiling_of c.args.tiling.now in
    let list = c.args.list.now in
    let table = c.args.table.now in
    let x = instance_of c.in-Some.instance in
    let way = c.loop-instance.invariant.way in
    let at = (goal.at.pass-requires-clause-take c).In-Some in
    can_take c.args.flow program params tiling list table c.requires.can way.done c.loop-instance.pass.traces
    c.loop-instance.pass.pairs (cells_at row x.turns) way.passed
    (cells_told c.args.flow program params tiling list table c.requires.can (laws at)
    c.cells_lie_within_22_bits.ensures.numbers way.done x
    (to_come (trees_in c.args.source.now) params c.next.new.self) (next at) row told)

pub pass_ahead-requires-clause-passing : goal.pass_ahead-requires-clause-passing
pass_ahead-requires-clause-passing c =
    let params = c.args.params.now in
    let ts = trees_in c.args.source.now in
    record {
      spot_is = c.in-Some.ensures.spot;
      finder = c.in_ok-pass.ensures.finder;
      room = subst (HasRoomForAll c.args.table.now) (sym c.in_ok-pass.ensures.desk) c.loop-instance.invariant.room;
      way = step_on c.args.flow (program_of c.args.kernel.now) params (tiling_of c.args.tiling.now) c.args.list.now
          c.args.table.now c.requires.can (laws (goal.at.pass_ahead-requires-clause-passing c).In-Some)
          c.cells_lie_within_22_bits.ensures.numbers (instance_of c.in-Some.instance)
          (to_come ts params c.loop-instance.spot) (to_come ts params c.next.new.self)
          c.loop-instance.pass.traces c.pass.new.self.traces c.loop-instance.pass.pairs c.pass.new.self.pairs
          c.in-Some.ensures.rest c.loop-instance.invariant.way c.in_ok-pass.ensures.taken;
    }

pub returns-then-pass-gt-MOST_EDGES : goal.returns-then-pass-gt-MOST_EDGES
returns-then-pass-gt-MOST_EDGES c =
    let many : 4194304 < c.pass_ahead.new.pass.pairs.count = search rules in
    found_many c.args.flow (program_of c.args.kernel.now) c.args.params.now (tiling_of c.args.tiling.now)
    c.args.list.now c.args.table.now c.requires.can 4194304
    (to_come (trees_in c.args.source.now) c.args.params.now c.pass_ahead.new.spot) c.pass_ahead.new.pass.traces
    c.pass_ahead.new.pass.pairs many c.in_ok-pass_ahead.ensures.passing.way

pub returns : goal.returns
returns c =
    let all = to_come (trees_in c.args.source.now) c.args.params.now c.loop-instance.spot in
    let none : all ≡ [] = search rules in
    found_all c.args.flow (program_of c.args.kernel.now) c.args.params.now (tiling_of c.args.tiling.now) c.args.list.now
    c.args.table.now c.requires.can 4194304 all c.loop-instance.pass.traces c.loop-instance.pass.pairs none
    c.loop-instance.invariant.way
