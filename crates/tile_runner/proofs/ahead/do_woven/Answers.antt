use Rattle.scop_syntax.proofs.Common.{arith, ◌≡◌, ◌+◌, ℕ, [], subst, suc, sym}
use Rattle.array_words.specs.Seats.{IsSeat}
use Rattle.tile_core.specs.Stretches.{IsWoven}
use Rattle.tile_core.specs.Views.{done_at, tile_at}
use Rattle.tile_core.specs.declared.worker.Stage.TheVariants.{Working}
use Rattle.tile_core.specs.declared.worker.Worker.{Worker}
use Rattle.tile_runner.proofs.ahead.do_woven.Goals as goal

pub do_along-requires-clause-ahead : goal.do_along-requires-clause-ahead
do_along-requires-clause-ahead c = c.requires.woven.first

pub do_rounds-requires-clause-seat : goal.do_rounds-requires-clause-seat
do_rounds-requires-clause-seat c =
    let words = c.args.words.now in
    let s = c.args.pass.now.worker.stage in
    let new = c.do_along.new.seat in
    let here = subst (λ (k : ℕ). IsSeat words (Working (tile_at s) k) [] new)
    (let e : done_at s + 1 ≡ suc (done_at s) = omega arith in e) c.do_along.ensures.seat in
    subst (λ (w : Worker). IsSeat words (Working (tile_at w.stage) (suc (done_at w.stage))) [] new)
    (sym c.do_along.ensures.same) here

pub do_rounds-requires-clause-woven : goal.do_rounds-requires-clause-woven
do_rounds-requires-clause-woven c =
    subst (λ (w : Worker). IsWoven c.args.words.now.plan w.stage w.next w.spot c.args.rounds)
    (sym c.do_along.ensures.same) c.requires.woven

pub pass_rounds-requires-clause-woven : goal.pass_rounds-requires-clause-woven
pass_rounds-requires-clause-woven c =
    subst (λ (w : Worker). IsWoven c.args.words.now.plan w.stage w.next w.spot c.args.rounds)
    (sym c.do_rounds.ensures.same)
    (subst (λ (w : Worker). IsWoven c.args.words.now.plan w.stage w.next w.spot c.args.rounds)
    (sym c.do_along.ensures.same) c.requires.woven)
