use Rattle.scop_syntax.proofs.Common.{arith, ◌≡◌, ◌∙◌, ◌+◌, ◌*◌, ℕ, [], ap, subst, suc, sym}
use Rattle.array_words.specs.Seats.{IsSeat}
use Rattle.tile_core.specs.Strands.{AreLaid}
use Rattle.tile_core.specs.Views.{done_at, tile_at}
use Rattle.tile_core.specs.declared.worker.Stage.TheVariants.{Working}
use Rattle.tile_core.specs.declared.worker.Worker.{Worker}
use Rattle.tile_core.proofs.Strands.{rows_there}
use Rattle.tile_runner.specs.steps.Laid.{AreStrandsNext}
use Rattle.tile_runner.proofs.Laid.{seat_past}
use Rattle.tile_runner.proofs.StrandsNext.{round_next}
use Rattle.tile_runner.proofs.rounds.do_rounds.Goals as goal

pub lay_strands-requires-clause-rows : goal.lay_strands-requires-clause-rows
lay_strands-requires-clause-rows c =
    let plan = c.args.words.now.plan in
    let w = c.args.worker.now in
    rows_there plan w.stage w.next w.spot c.args.rounds c.requires.woven
    (λ x walked. c.rows_tell_instances.ensures.there plan x c.requires.seat.of.planned walked)

pub loop-init : goal.loop-init
loop-init c =
    let w = c.args.worker.now in
    let k = suc (done_at w.stage) in record {
      seat = subst (λ (n : ℕ). IsSeat c.args.words.now (Working (tile_at w.stage) n) [] c.args.seat.now)
          (let e : k ≡ k + 0 * w.spot.braid.count = omega arith in e) c.requires.seat;
      laid = c.lay_strands.ensures.laid;
      same = c.lay_strands.ensures.same;
      worker = c.lay_strands.ensures.worker;
    }

pub do_round-requires-clause-next : goal.do_round-requires-clause-next
do_round-requires-clause-next c =
    let plan = c.args.words.now.plan in
    let a = c.args.worker.now in
    let inv = c.loop.invariant in
    let desks = c.loop.worker.desks.items in
    subst (λ (v : Worker). AreStrandsNext plan c.loop.seat.me.0.stage v.spot.braid desks) (sym inv.same)
    (round_next plan a.stage a.next a.spot c.args.rounds c.requires.woven c.loop.counter c.loop-test.true
    c.loop.seat.me.0.stage inv.seat.stage desks inv.laid)

pub loop-preserved : goal.loop-preserved
loop-preserved c =
    let words = c.args.words.now in
    let table = words.plan.table.now in
    let a = c.args.worker.now in
    let w = c.loop.worker in
    let q = c.loop.counter in
    let count = a.spot.braid.count in
    let inv = c.loop.invariant in
    let new = c.do_round.new.worker in
    let t = tile_at a.stage in
    let k = suc (done_at a.stage) in
    let goes = subst (λ (v : Worker). (round : ℕ)
    → AreLaid table v.spot.braid 0 v.spot.braid.count round w.desks.items
    → AreLaid table v.spot.braid 0 v.spot.braid.count (suc round) new.desks.items) inv.same c.do_round.ensures.laid in
    let far = subst (λ (v : Worker). IsSeat words (Working t ((k + q * count) + v.spot.braid.count)) []
    c.do_round.new.seat) inv.same
    (seat_past words c.loop.seat c.do_round.new.seat t (k + q * count) w.spot.braid.count inv.seat
    c.do_round.ensures.seat) in
    record {
      seat = subst (λ (n : ℕ). IsSeat words (Working t n) [] c.do_round.new.seat)
          (let e : (k + q * count) + count ≡ k + (q + 1) * count = omega arith in e) far;
      laid = subst (λ n. AreLaid table a.spot.braid 0 count n new.desks.items)
          (let e : suc q ≡ q + 1 = omega arith in e) (goes q inv.laid);
      same = c.do_round.ensures.same ∙ ap (λ (v : Worker). record v { desks = new.desks }) inv.same;
      worker = c.do_round.ensures.worker;
    }
