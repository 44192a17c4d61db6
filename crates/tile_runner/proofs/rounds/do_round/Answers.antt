use Rattle.scop_syntax.proofs.Common.{rules, ◌≡◌, ◌∙◌, ◌+◌, ◌<◌, ℕ, [], ap, ap₂, arith, get_or, length, refl, subst}
use Rattle.scop_syntax.proofs.Common.{suc, with_item}
use Rattle.array_words.specs.Seats.{IsSeat}
use Rattle.tile_table.proofs.Desks.{room_stays_for_all}
use Rattle.tile_core.specs.Stretches.{in_round}
use Rattle.tile_core.specs.Views.{done_at, tile_at}
use Rattle.tile_core.specs.declared.worker.Stage.{Stage}
use Rattle.tile_core.specs.declared.worker.Stage.TheVariants.{Working}
use Rattle.tile_core.specs.declared.worker.Worker.{Worker}
use Rattle.tile_core.proofs.Strands.{desks_put, laid_behind, laid_more, laid_on, room_there, strand_of, worker_with}
use Rattle.tile_runner.proofs.Laid.{seat_on, stands}
use Rattle.tile_runner.proofs.StrandsNext.{strand_next}
use Rattle.tile_runner.proofs.rounds.do_round.Goals as goal

pub loop-at-init : goal.loop-at-init
loop-at-init c =
    let next = c.requires.next in
    let s = c.args.seat.now.me.0.stage in record {
      seat = subst (λ (u : Stage). IsSeat c.args.words.now u [] c.args.seat.now) (stands s next.tile next.done next.works)
          c.requires.seat;
      laid = λ round laid. ((λ at strand d low high. absurd (omega (arith, high))), laid);
      same = refl;
      worker = c.requires.worker;
    }

pub row-row-requires : goal.row-row-requires
row-row-requires c =
    let w = c.loop-at.worker in
    let at = c.loop-at.at in
    let next = c.requires.next in
    let below : at < length w.spot.braid.strands = search rules in
    let strand = get_or w.spot.braid.strands at c.index-worker-at.result in
    c.rows_tell_instances.ensures.there c.args.words.now.plan (in_round strand next.round) c.requires.seat.of.planned
    (next.is.here.walked at strand c.loop-at-test.true
    (strand_of c.args.worker.now w at c.index-worker-at.result c.loop-at.invariant.same below))

pub do_laid-requires-clause-laid : goal.do_laid-requires-clause-laid
do_laid-requires-clause-laid c =
    let a = c.args.worker.now in
    let w = c.loop-at.worker in
    let at = c.loop-at.at in
    let inv = c.loop-at.invariant in
    let next = c.requires.next in
    let below : at < length w.spot.braid.strands = search rules in
    let strand = get_or w.spot.braid.strands at c.index-worker-at.result in
    let desk = c.index_mut.result.now in
    let is : desk ≡ get_or w.desks.items at desk = search rules in
    strand_next c.args.words.now.plan a.spot.braid w.desks.items at strand desk c.row-row.result.now inv.worker.desks
    c.requires.worker.spot.braid.few c.loop-at-test.true
    (strand_of a w at c.index-worker-at.result inv.same below) is c.row-row.ensures
    c.loop-at.seat.me.0.stage next.round next.tile next.done
    (inv.seat.stage ∙ ap₂ (λ (t k : ℕ). Working t (k + at)) (ap tile_at next.works) (ap done_at next.works)) next.within
    next.is.here (inv.laid next.round next.is.laid).1

pub loop-at-preserved : goal.loop-at-preserved
loop-at-preserved c =
    let plan = c.args.words.now.plan in
    let table = plan.table.now in
    let a = c.args.worker.now in
    let s = c.args.seat.now.me.0.stage in
    let w = c.loop-at.worker in
    let at = c.loop-at.at in
    let inv = c.loop-at.invariant in
    let few = c.requires.worker.spot.braid.few in
    let less = c.loop-at-test.true in
    let below : at < length w.spot.braid.strands = search rules in
    let within : at < length w.desks.items = search rules in
    let strand = get_or w.spot.braid.strands at c.index-worker-at.result in
    let there = strand_of a w at c.index-worker-at.result inv.same below in
    let row = c.row-row.result.now in
    let desk = c.index_mut.result.now in
    let new = c.do_laid.new.desk in
    let is : desk ≡ get_or w.desks.items at desk = search rules in
    let room = room_there plan a.spot.braid w.desks.items at strand desk row inv.worker.desks few less there is
    c.row-row.ensures in record {
      seat = seat_on c.args.words.now c.loop-at.seat c.do_laid.new.seat (tile_at s) (done_at s) at inv.seat
          c.do_laid.ensures.seat;
      laid = λ round laid. let two = inv.laid round laid in (
        laid_more table a.spot.braid w.desks.items at new strand (suc round) within there
            (laid_on plan a.spot.braid w.desks.items at strand desk row inv.worker.desks few less there is c.row-row.ensures
            new c.do_laid.ensures.laid round two.1) two.0,
        laid_behind table a.spot.braid w.desks.items at new a.spot.braid.count round two.1,
      );
      same = ap (λ (v : Worker). record v { desks = with_item w.desks at new }) inv.same;
      worker = worker_with plan w (with_item w.desks at new) inv.worker
          (desks_put table w.desks.items at new inv.worker.desks
          (room_stays_for_all table desk new room c.do_laid.ensures.room));
    }

pub returns-clause-laid : goal.returns-clause-laid
returns-clause-laid c round laid at strand d low high there =
    let end = c.loop-at-test.false in
    (c.loop-at.invariant.laid round laid).0 at strand d low (omega (arith, end, high)) there
