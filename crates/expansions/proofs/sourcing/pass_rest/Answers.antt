use Rattle.scop_syntax.proofs.Common.{◌≡◌, List, [], rules, subst, instance_of, program_of, Instance}
use Rattle.loop_tree.specs.SpotView.{to_come}
use Rattle.loop_tree.specs.View.{trees_in}
use Rattle.tile_table.proofs.NextPlaces.{NextPlace, next_place, row_within}
use Rattle.tile_table.proofs.Visits.{WalkLaws}
use Rattle.expansions.specs.steps.Marks.{HasPassed}
use Rattle.expansions.specs.steps.Passing.{IsOnItsWay}
use Rattle.expansions.proofs.PassedPlaces.{place_few, row_some, step_on}
use Rattle.expansions.proofs.sourcing.pass_rest.Goals as goal
use Rattle.expansions.proofs.sourcing.pass_rest.Goals.{In-Some}

-- the place that comes next
next : (c : In-Some) → NextPlace (program_of c.args.kernel.now) c.args.params.now c.loop-instance.pass.place
    (instance_of c.in-Some.instance) (to_come (trees_in c.args.source.now) c.args.params.now c.next.new.self)
next c =
    let ts = trees_in c.args.source.now in
    next_place (program_of c.args.kernel.now) c.args.params.now c.loop-instance.pass.place
    (instance_of c.in-Some.instance) (to_come ts c.args.params.now c.loop-instance.spot)
    (to_come ts c.args.params.now c.next.new.self) c.in-Some.ensures.rest c.loop-instance.invariant.way.left

laws : In-Some → WalkLaws
laws c = record {
  found = c.instances_are_those_of_statements.ensures.found;
  turns = c.instances_are_those_of_statements.ensures.turns;
  number = c.statements_are_numbered.ensures.number;
}

pub row-requires : goal.row-requires
row-requires c =
    let at = (goal.at.row-requires c).In-Some in
    row_within (program_of c.args.kernel.now) c.args.params.now c.args.table.now c.requires.can.told (laws at)
    c.loop-instance.pass.place (instance_of c.in-Some.instance)
    (to_come (trees_in c.args.source.now) c.args.params.now c.next.new.self) (next at)

pub pass-requires-clause-place : goal.pass-requires-clause-place
pass-requires-clause-place c =
    place_few (program_of c.args.kernel.now) c.args.params.now c.args.table.now c.args.most c.requires.can
    (instance_of c.in-Some.instance) (to_come (trees_in c.args.source.now) c.args.params.now c.next.new.self)
    c.loop-instance.pass (next (goal.at.pass-requires-clause-place c).In-Some)

pub pass-requires-clause-row : goal.pass-requires-clause-row
pass-requires-clause-row c =
    let at = (goal.at.pass-requires-clause-row c).In-Some in
    row_some (program_of c.args.kernel.now) c.args.params.now c.args.table.now c.args.most c.requires.can (laws at)
    (instance_of c.in-Some.instance) (to_come (trees_in c.args.source.now) c.args.params.now c.next.new.self)
    c.loop-instance.pass (next at) c.row.result.now c.row.ensures

pub loop-instance-preserved : goal.loop-instance-preserved
loop-instance-preserved c =
    let ts = trees_in c.args.source.now in
    let params = c.args.params.now in
    let x = instance_of c.in-Some.instance in
    let own : c.turns.result.now ≡ x.turns = search rules in
    record {
      spot = c.in-Some.ensures.spot;
      way = step_on (program_of c.args.kernel.now) params c.args.table.now c.args.most c.requires.can
          (laws (goal.at.loop-instance-preserved c).In-Some) c.cells_lie_within_22_bits.ensures.numbers x
          (to_come ts params c.loop-instance.spot) (to_come ts params c.next.new.self)
          c.loop-instance.pass c.pass.new.self c.row.result.now c.in-Some.ensures.rest
          c.cells_have_numbers_of_their_own.ensures.apart c.row.ensures
          (subst (λ zs. HasPassed c.row.result.now zs c.args.most c.loop-instance.pass c.pass.new.self) own
          c.in_ok-pass.ensures) c.loop-instance.invariant.way;
    }

pub returns : goal.returns
returns c =
    let all = to_come (trees_in c.args.source.now) c.args.params.now c.loop-instance.spot in
    let none : all ≡ [] = search rules in
    subst (λ (xs : List Instance). IsOnItsWay (program_of c.args.kernel.now) c.args.params.now c.args.most xs
    c.loop-instance.pass) none c.loop-instance.invariant.way
