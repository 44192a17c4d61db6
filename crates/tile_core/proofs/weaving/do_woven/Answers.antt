use Rattle.scop_syntax.proofs.Common.{arith, ◌≡◌, ◌∙◌, ◌+◌, ◌*◌, ℕ, List, ap, suc}
use Rattle.tile_core.specs.Plans.{plain_shape}
use Rattle.tile_core.specs.declared.worker.Stage.TheVariants.{Working}
use Rattle.tile_core.specs.declared.worker.Worker.{Worker}
use Rattle.tile_core.specs.steps.Acts.{after_instances}
use Rattle.tile_core.proofs.Acts.{after_more}
use Rattle.tile_core.proofs.weaving.do_woven.Goals as goal

pub returns-clause-cells : goal.returns-clause-cells
returns-clause-cells c t k works =
    let p = plain_shape c.args.plan.now in
    let w = c.do_ahead.new.worker in
    let v = c.do_rounds.new.worker in
    let cells = c.args.cells.now in
    let here : w.stage ≡ Working t k = ap (λ (u : Worker). u.stage) c.do_ahead.ensures.same ∙ works in
    let there : v.stage ≡ Working t k = ap (λ (u : Worker). u.stage) c.do_rounds.ensures.same ∙ here in
    let all = c.pass_rounds.ensures.count t k there in
    let count = ap (λ (u : Worker). c.args.rounds * u.spot.braid.count) c.do_rounds.ensures.same in
    let n = c.args.rounds * w.spot.braid.count in
    c.do_rounds.ensures.cells t k here
    ∙ (ap (λ (ys : List ℕ). after_instances p t (suc k) n ys) (c.do_ahead.ensures.cells t k works)
    ∙ (ap (λ m. after_instances p t m n (after_instances p t k 1 cells)) (let e : suc k ≡ k + 1 = omega arith in e)
    ∙ (after_more p t k 1 n cells
    ∙ ap (λ m. after_instances p t k m cells)
    (let e : 1 + n ≡ c.pass_rounds.result = omega (arith, all, count) in e))))
