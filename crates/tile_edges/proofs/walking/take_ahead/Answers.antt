use Rattle.scop_syntax.proofs.Common.{◌≡◌, ◌∙◌, ◌+◌, arith, refl, rules, subst, suc, program_of}
use Rattle.loop_tree.specs.TilingView.{tiling_of}
use Rattle.loop_tree.specs.View.{trees_in}
use Rattle.tile_table.specs.Desks.{IsLaid}
use Rattle.tile_table.proofs.Desks.{room_stays, room_stays_for_all}
use Rattle.tile_table.proofs.Visits.{WalkLaws}
use Rattle.tile_edges.specs.steps.Ahead.{steps_in, to_come_on, turns_in}
use Rattle.tile_edges.specs.steps.Walks.{IsOnItsWay}
use Rattle.tile_edges.proofs.Ahead.{can_ahead, first_to_come, gone_ahead, row_ahead}
use Rattle.tile_edges.proofs.walking.take_ahead.Goals as goal

pub row-row-requires : goal.row-row-requires
row-row-requires c =
    let program = program_of c.args.kernel.now in
    let params = c.args.params.now in
    let tiling = tiling_of c.args.tiling.now in
    let list = c.args.list.now in
    let kept = c.args.pass.now.traces in
    let found = c.args.pass.now.pairs in
    let some = c.requires.some in
    let few = c.requires.few in
    let laws : WalkLaws = record {
      found = c.instances_are_those_of_statements.ensures.found;
      turns = c.instances_are_those_of_statements.ensures.turns;
      number = c.statements_are_numbered.ensures.number;
    } in
    row_ahead c.args.flow program params tiling list c.args.table.now c.requires.can laws
    c.cells_lie_within_22_bits.ensures.numbers (trees_in c.args.source.now) c.args.spot.now kept found
    (omega (arith, some, few))
    (subst (λ xs. IsOnItsWay c.args.flow program params tiling list xs kept found)
    (first_to_come (trees_in c.args.source.now) params c.args.spot.now) c.requires.way)

pub lay-requires : goal.lay-requires
lay-requires c = c.requires.room.each c.args.spot.now.stretch.before.statement c.row-row.result.now c.row-row.ensures

pub loop-init : goal.loop-init
loop-init c =
    let program = program_of c.args.kernel.now in
    let params = c.args.params.now in
    let tiling = tiling_of c.args.tiling.now in
    let list = c.args.list.now in
    let kept = c.args.pass.now.traces in
    let found = c.args.pass.now.pairs in
    let s = c.args.spot.now.stretch in
    record {
      finder = refl;
      room = room_stays_for_all c.args.table.now c.args.pass.now.desk c.lay.new.desk c.requires.room c.lay.ensures.room;
      laid = subst (λ ts. IsLaid c.row-row.result.now (steps_in s) ts c.lay.new.desk) c.turns.ensures c.lay.ensures.laid;
      way = subst (λ xs. IsOnItsWay c.args.flow program params tiling list xs kept found)
          (first_to_come (trees_in c.args.source.now) params c.args.spot.now) c.requires.way;
    }

pub go_on-requires : goal.go_on-requires
go_on-requires c =
    c.loop.invariant.room.each c.args.spot.now.stretch.before.statement c.row-row.result.now c.row-row.ensures

pub put_laid-requires : goal.put_laid-requires
put_laid-requires c =
    room_stays c.row-row.result.now c.loop.pass.desk c.go_on.new.desk
    (c.loop.invariant.room.each c.args.spot.now.stretch.before.statement c.row-row.result.now c.row-row.ensures)
    c.go_on.ensures.room

pub take_all-requires : goal.take_all-requires
take_all-requires c =
    let program = program_of c.args.kernel.now in
    let params = c.args.params.now in
    let tiling = tiling_of c.args.tiling.now in
    let list = c.args.list.now in
    let s = c.args.spot.now.stretch in
    let row = c.row-row.result.now in
    let here = turns_in s c.loop.counter in
    let few = c.requires.few in
    let less = c.loop-test.true in
    let lent : c.as_slice-cells.result.now ≡ c.put_laid.new.cells.items = search rules in
    let laws : WalkLaws = record {
      found = c.instances_are_those_of_statements.ensures.found;
      turns = c.instances_are_those_of_statements.ensures.turns;
      number = c.statements_are_numbered.ensures.number;
    } in
    can_ahead c.args.flow program params tiling list c.args.table.now c.requires.can laws
    c.cells_lie_within_22_bits.ensures.numbers (trees_in c.args.source.now) c.args.spot.now c.loop.counter
    c.loop.pass.traces c.loop.pass.pairs row c.as_slice-cells.result.now (omega (arith, less, few)) c.row-row.ensures
    (lent ∙ c.in_ok-put_laid.ensures (steps_in s) (turns_in s (suc c.loop.counter))
    (c.go_on.ensures.laid (steps_in s) here c.loop.invariant.laid)) c.loop.invariant.way

pub loop-preserved : goal.loop-preserved
loop-preserved c =
    let program = program_of c.args.kernel.now in
    let params = c.args.params.now in
    let tiling = tiling_of c.args.tiling.now in
    let list = c.args.list.now in
    let ts = trees_in c.args.source.now in
    let spot = c.args.spot.now in
    let s = c.args.spot.now.stretch in
    let row = c.row-row.result.now in
    let here = turns_in s c.loop.counter in
    let laid = c.go_on.ensures.laid (steps_in s) here c.loop.invariant.laid in
    let lent : c.as_slice-cells.result.now ≡ c.put_laid.new.cells.items = search rules in
    let next : suc c.loop.counter ≡ c.loop.counter + 1 = omega arith in
    let laws : WalkLaws = record {
      found = c.instances_are_those_of_statements.ensures.found;
      turns = c.instances_are_those_of_statements.ensures.turns;
      number = c.statements_are_numbered.ensures.number;
    } in
    record {
      finder = c.loop.invariant.finder;
      room = room_stays_for_all c.args.table.now c.loop.pass.desk c.go_on.new.desk c.loop.invariant.room
          c.go_on.ensures.room;
      laid = subst (λ k. IsLaid row (steps_in s) (turns_in s k) c.go_on.new.desk) next laid;
      way = subst (λ k. IsOnItsWay c.args.flow program params tiling list (to_come_on ts params spot k)
          c.take_all.new.traces c.take_all.new.pairs) next
          (gone_ahead c.args.flow program params tiling list c.args.table.now c.requires.can laws
          c.cells_lie_within_22_bits.ensures.numbers ts spot c.loop.counter c.args.count c.args.pass.now.finder.at
          c.loop.pass.traces c.take_all.new.traces c.loop.pass.pairs c.take_all.new.pairs row c.as_slice-cells.result.now
          c.loop-test.true c.requires.few c.requires.tile c.row-row.ensures
          (lent ∙ c.in_ok-put_laid.ensures (steps_in s) (turns_in s (suc c.loop.counter)) laid) c.loop.invariant.way
          c.in_ok-take_all.ensures);
    }

pub returns-clause-way : goal.returns-clause-way
returns-clause-way c =
    let program = program_of c.args.kernel.now in
    let params = c.args.params.now in
    let tiling = tiling_of c.args.tiling.now in
    let list = c.args.list.now in
    let ts = trees_in c.args.source.now in
    let end = c.loop-test.false in
    let most = c.loop.auto.counter-end in
    let same : c.loop.counter ≡ c.args.count = omega (arith, end, most) in
    subst (λ k. IsOnItsWay c.args.flow program params tiling list (to_come_on ts params c.args.spot.now k)
    c.loop.pass.traces c.loop.pass.pairs) same c.loop.invariant.way
