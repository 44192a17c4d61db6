use Rattle.scop_syntax.proofs.Common.{rules, ◌≡◌, ◌≤◌, ◌∙◌, ◌+◌, ◌<◌, ℕ, List, ap, arith, get_or, length, suc, take}
use Rattle.scop_syntax.proofs.Common.{with_item}
use Rattle.tile_table.proofs.Desks.{room_stays_for_all}
use Rattle.tile_core.specs.Plans.{plain_shape}
use Rattle.tile_core.specs.Stretches.{in_round}
use Rattle.tile_core.specs.declared.worker.Worker.{Worker}
use Rattle.tile_core.specs.steps.Acts.{after_instances, after_place}
use Rattle.tile_core.proofs.Strands.{desk_there, desks_put, laid_behind, laid_more, laid_on, room_there, strand_of}
use Rattle.tile_core.proofs.Strands.{worker_with}
use Rattle.tile_core.proofs.weaving.do_round.Goals as goal

pub row-requires : goal.row-requires
row-requires c =
    let plan = c.args.plan.now in
    let a = c.args.worker.now in
    let w = c.loop-at.worker in
    let at = c.loop-at.at in
    let stands = c.requires.stands in
    let below : at < length w.spot.braid.strands = search rules in
    let strand = get_or w.spot.braid.strands at c.index-worker-at.result in
    c.rows_tell_instances.ensures.there plan (in_round strand stands.round) c.requires.plan
    (stands.is.here.walked at strand c.loop-at-test.true
    (strand_of a w at c.index-worker-at.result c.loop-at.invariant.same below))

pub do_laid-requires : goal.do_laid-requires
do_laid-requires c =
    let plan = c.args.plan.now in
    let a = c.args.worker.now in
    let w = c.loop-at.worker in
    let at = c.loop-at.at in
    let inv = c.loop-at.invariant in
    let stands = c.requires.stands in
    let below : at < length w.spot.braid.strands = search rules in
    let strand = get_or w.spot.braid.strands at c.index-worker-at.result in
    let row = c.row.result.now in
    let desk = c.index_mut.result.now in
    let is : desk ≡ get_or w.desks.items at desk = search rules in
    let wide : (plain_shape plan).cells ≤ length c.loop-at.cells = search rules in record {
      plan = plan;
      steps = take strand.before.loops strand.steps;
      instance = in_round strand stands.round;
      at = desk_there plan a.spot.braid w.desks.items at strand desk row inv.worker.desks
          c.requires.worker.spot.braid.few c.loop-at-test.true
          (strand_of a w at c.index-worker-at.result inv.same below) is c.row.ensures
          (λ x walked has. c.rows_tell_instances.ensures.tells plan x row c.requires.plan walked has)
          stands.round stands.tile stands.first stands.is.here (inv.laid stands.round stands.is.laid).1;
      wide = wide;
    }

pub loop-at-preserved : goal.loop-at-preserved
loop-at-preserved c =
    let plan = c.args.plan.now in
    let p = plain_shape plan in
    let table = plan.table.now in
    let a = c.args.worker.now in
    let w = c.loop-at.worker in
    let at = c.loop-at.at in
    let inv = c.loop-at.invariant in
    let few = c.requires.worker.spot.braid.few in
    let less = c.loop-at-test.true in
    let below : at < length w.spot.braid.strands = search rules in
    let within : at < length w.desks.items = search rules in
    let strand = get_or w.spot.braid.strands at c.index-worker-at.result in
    let there = strand_of a w at c.index-worker-at.result inv.same below in
    let row = c.row.result.now in
    let desk = c.index_mut.result.now in
    let new = c.do_laid.new.desk in
    let is : desk ≡ get_or w.desks.items at desk = search rules in
    let room = room_there plan a.spot.braid w.desks.items at strand desk row inv.worker.desks few less there is
    c.row.ensures in
    let next : suc at ≡ at + 1 = omega arith in record {
      cells = λ round t k round_is.
          c.do_laid.ensures.cells plan (take strand.before.loops strand.steps) (in_round strand round)
          (desk_there plan a.spot.braid w.desks.items at strand desk row inv.worker.desks few less there is c.row.ensures
          (λ x walked has. c.rows_tell_instances.ensures.tells plan x row c.requires.plan walked has)
          round t k round_is.here (inv.laid round round_is.laid).1)
          ∙ (ap (λ n. after_place p n c.loop-at.cells) (round_is.here.place at strand less there)
          ∙ (ap (λ (ys : List ℕ). after_place p (p.place t (k + at)) ys) (inv.cells round t k round_is)
          ∙ ap (λ n. after_instances p t k n c.args.cells.now) next));
      laid = λ round laid. let two = inv.laid round laid in (
        laid_more table a.spot.braid w.desks.items at new strand (suc round) within there
            (laid_on plan a.spot.braid w.desks.items at strand desk row inv.worker.desks few less there is c.row.ensures
            new c.do_laid.ensures.laid round two.1) two.0,
        laid_behind table a.spot.braid w.desks.items at new a.spot.braid.count round two.1,
      );
      same = ap (λ (v : Worker). record v { desks = with_item w.desks at new }) inv.same;
      worker = worker_with plan w (with_item w.desks at new) inv.worker
          (desks_put table w.desks.items at new inv.worker.desks
          (room_stays_for_all table desk new room c.do_laid.ensures.room));
    }

pub returns-clause-laid : goal.returns-clause-laid
returns-clause-laid c round laid at strand d low high there =
    let end = c.loop-at-test.false in
    (c.loop-at.invariant.laid round laid).0 at strand d low (omega (arith, end, high)) there
