use Rattle.scop_syntax.proofs.Common.{arith, ◌≡◌, ◌∙◌, ◌+◌, ◌*◌, ℕ, List, ap, suc, subst, sym}
use Rattle.tile_core.specs.Plans.{plain_shape}
use Rattle.tile_core.specs.Strands.{AreLaid, IsRound, StandsInRound}
use Rattle.tile_core.specs.declared.worker.Worker.{Worker}
use Rattle.tile_core.specs.steps.Acts.{after_instances}
use Rattle.tile_core.proofs.Acts.{after_more}
use Rattle.tile_core.proofs.Strands.{rounds_at, rows_there}
use Rattle.tile_core.proofs.weaving.do_rounds.Goals as goal

pub lay_strands-requires-clause-rows : goal.lay_strands-requires-clause-rows
lay_strands-requires-clause-rows c =
    let plan = c.args.plan.now in
    let w = c.args.worker.now in
    rows_there plan w.stage w.next w.spot c.args.rounds c.requires.woven
    (λ x walked. c.rows_tell_instances.ensures.there plan x c.requires.plan walked)

pub do_round-requires-clause-stands : goal.do_round-requires-clause-stands
do_round-requires-clause-stands c =
    let plan = c.args.plan.now in
    let a = c.args.worker.now in
    let woven = c.requires.woven in
    let front = woven.first in
    subst (λ (v : Worker). StandsInRound plan v.spot.braid c.loop.worker.desks.items) (sym c.loop.invariant.same)
    record {
      round = c.loop.counter;
      tile = front.tile;
      first = suc front.done + c.loop.counter * a.spot.braid.count;
      is = record {
        here = rounds_at plan a.stage a.next a.spot c.args.rounds woven front.tile front.done c.loop.counter front.works
            c.loop-test.true;
        laid = c.loop.invariant.laid;
      };
    }

pub loop-preserved : goal.loop-preserved
loop-preserved c =
    let plan = c.args.plan.now in
    let p = plain_shape plan in
    let table = plan.table.now in
    let a = c.args.worker.now in
    let w = c.loop.worker in
    let q = c.loop.counter in
    let count = a.spot.braid.count in
    let inv = c.loop.invariant in
    let new = c.do_round.new.worker in
    let gives = subst (λ (v : Worker). (round t k : ℕ) → IsRound plan v.spot.braid round t k w.desks.items
    → c.do_round.new.cells ≡ after_instances p t k v.spot.braid.count c.loop.cells) inv.same c.do_round.ensures.cells in
    let goes = subst (λ (v : Worker). (round : ℕ)
    → AreLaid table v.spot.braid 0 v.spot.braid.count round w.desks.items
    → AreLaid table v.spot.braid 0 v.spot.braid.count (suc round) new.desks.items) inv.same c.do_round.ensures.laid in
    let next : suc q ≡ q + 1 = omega arith in record {
      cells = λ t k works.
          gives q t (suc k + q * count) record {
            here = rounds_at plan a.stage a.next a.spot c.args.rounds c.requires.woven t k q works c.loop-test.true;
            laid = inv.laid;
          }
          ∙ (ap (λ (ys : List ℕ). after_instances p t (suc k + q * count) count ys) (inv.cells t k works)
          ∙ (after_more p t (suc k) (q * count) count c.args.cells.now
          ∙ ap (λ n. after_instances p t (suc k) n c.args.cells.now)
          (let e : q * count + count ≡ (q + 1) * count = omega arith in e)));
      laid = subst (λ n. AreLaid table a.spot.braid 0 count n new.desks.items) next (goes q inv.laid);
      same = c.do_round.ensures.same ∙ ap (λ (v : Worker). record v { desks = new.desks }) inv.same;
      worker = c.do_round.ensures.worker;
    }
