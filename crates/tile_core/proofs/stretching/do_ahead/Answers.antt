use Rattle.scop_syntax.proofs.Common.{rules, ◌≡◌, ◌≤◌, ◌∙◌, ◌+◌, ℕ, ℤ, List, ap, arith, length, subst, suc, take}
use Rattle.scop_syntax.proofs.Common.{instance_of}
use Rattle.tile_table.specs.Desks.{IsLaid}
use Rattle.tile_table.proofs.Desks.{room_stays, same_room_chain}
use Rattle.tile_table.specs.Joins.{IsJoinAt}
use Rattle.tile_core.specs.Plans.{plain_shape}
use Rattle.tile_list.specs.Stretches.{turns_on}
use Rattle.tile_core.specs.Stretches.{moved}
use Rattle.tile_core.specs.declared.worker.Worker.{Worker}
use Rattle.tile_core.specs.steps.Acts.{after_instances, after_place}
use Rattle.tile_core.specs.steps.Desks.{IsDeskAt}
use Rattle.tile_core.proofs.Ahead.{place_ahead, walked_ahead}
use Rattle.tile_core.proofs.Joins.{joined_from}
use Rattle.tile_core.proofs.stretching.do_ahead.Goals as goal
use Rattle.tile_core.proofs.stretching.do_ahead.Goals.{In-loop}

there : (c : In-loop)
    → IsDeskAt c.args.plan.now c.row-row.result.now (take c.in-Some.first.loops c.args.worker.now.spot.stretch.steps)
    (moved (instance_of c.in-Some.first) (take c.in-Some.first.loops c.args.worker.now.spot.stretch.steps)
    c.loop.counter) c.loop.worker.desk
there c =
    let plan = c.args.plan.now in
    let w = c.args.worker.now in
    let i = c.in-Some.first in
    let row = c.row-row.result.now in record {
      tells = c.rows_tell_instances.ensures.tells plan (moved (instance_of i) (take i.loops w.spot.stretch.steps)
          c.loop.counter) row c.requires.plan
          (walked_ahead plan w.stage w.next w.spot.stretch c.args.count i c.requires.ahead c.in-Some.is c.loop.counter
          c.loop-test.true) c.row-row.ensures.row;
      room = room_stays row w.desk c.loop.worker.desk
          (c.requires.worker.desk.each i.statement row c.row-row.ensures.row) c.loop.invariant.room;
      laid = c.loop.invariant.laid i c.in-Some.is;
    }

pub do_laid-requires : goal.do_laid-requires
do_laid-requires c =
    let i = c.in-Some.first in
    let steps = take i.loops c.args.worker.now.spot.stretch.steps in
    let wide : (plain_shape c.args.plan.now).cells ≤ length c.loop.cells = search rules in record {
      plan = c.args.plan.now;
      steps = steps;
      instance = moved (instance_of i) steps c.loop.counter;
      at = there (goal.at.do_laid-requires c).In-loop;
      wide = wide;
    }

pub loop-preserved : goal.loop-preserved
loop-preserved c =
    let plan = c.args.plan.now in
    let w = c.args.worker.now in
    let i = c.in-Some.first in
    let j = c.loop.counter in
    let inv = c.loop.invariant in
    let steps = take i.loops w.spot.stretch.steps in
    let next : suc j ≡ j + 1 = omega arith in record {
      cells = λ t k works.
          c.do_laid.ensures.cells plan steps (moved (instance_of i) steps j) (there (goal.at.loop-preserved c).In-loop)
          ∙ (ap (λ p. after_place (plain_shape plan) p c.loop.cells)
          (place_ahead plan w.stage w.next w.spot.stretch c.args.count i c.requires.ahead c.in-Some.is t k j works
          c.loop-test.true)
          ∙ (ap (λ (ys : List ℕ). after_place (plain_shape plan) ((plain_shape plan).place t (k + j)) ys) (inv.cells t k works)
          ∙ ap (λ n. after_instances (plain_shape plan) t k n c.args.cells.now) next));
      laid = λ v is.
          subst (λ n. IsLaid c.row-row.result.now (take v.loops w.spot.stretch.steps)
          (turns_on (instance_of v).turns (take v.loops w.spot.stretch.steps) n) c.do_laid.new.desk) next
          (c.do_laid.ensures.laid (take v.loops w.spot.stretch.steps) _ (inv.laid v is));
      room = same_room_chain w.desk c.loop.worker.desk c.do_laid.new.desk inv.room c.do_laid.ensures.room;
      same = ap (λ (v : Worker). record v { desk = c.do_laid.new.desk }) inv.same;
    }

pub do_joins-requires : goal.do_joins-requires
do_joins-requires c =
    let plan = c.args.plan.now in
    let w = c.args.worker.now in
    let i = c.in-Some.first in
    let row = c.row-row.result.now in
    let ahead = c.requires.ahead in
    let lanes = c.in-Some-lay_join.lanes in
    let laid = subst (λ (ts : List ℤ). IsJoinAt row (take i.loops w.spot.stretch.steps) ts lanes) c.turns.ensures
    c.in-Some-lay_join.ensures in
    record {
      plan = plan;
      row = row;
      steps = take i.loops w.spot.stretch.steps;
      instance = instance_of i;
      tile = ahead.tile;
      first = ahead.done;
      from = joined_from plan w.stage w.next w.spot.stretch c.args.count i row lanes
          (λ x walked own. c.rows_tell_instances.ensures.tells plan x row c.requires.plan walked own) ahead c.in-Some.is
          c.row-row.ensures.row laid ahead.tile ahead.done ahead.works;
      wide = c.requires.cells;
    }

pub returns-in-Some-lay_join-clause-cells : goal.returns-in-Some-lay_join-clause-cells
returns-in-Some-lay_join-clause-cells c = λ t k works.
    let plan = c.args.plan.now in
    let w = c.args.worker.now in
    let i = c.in-Some.first in
    let row = c.row-row.result.now in
    let lanes = c.in-Some-lay_join.lanes in
    let laid = subst (λ (ts : List ℤ). IsJoinAt row (take i.loops w.spot.stretch.steps) ts lanes) c.turns.ensures
    c.in-Some-lay_join.ensures in
    c.do_joins.ensures plan row (take i.loops w.spot.stretch.steps) (instance_of i) t k
    (joined_from plan w.stage w.next w.spot.stretch c.args.count i row lanes
    (λ x walked own. c.rows_tell_instances.ensures.tells plan x row c.requires.plan walked own) c.requires.ahead
    c.in-Some.is c.row-row.ensures.row laid t k works)
