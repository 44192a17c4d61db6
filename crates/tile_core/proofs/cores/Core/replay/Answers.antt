use Rattle.scop_syntax.proofs.Common.{get_or, ap, sym, subst, ◌∙◌}
use Rattle.tile_events.specs.Core.{step as stepped}
use Rattle.tile_core.specs.declared.plan.Plan.{Plan}
use Rattle.tile_core.specs.declared.cores.Turn.{Turn}
use Rattle.tile_core.specs.declared.board.Event.TheVariants.{Claim}
use Rattle.tile_core.specs.Boards.{IsRun, event_of, seen_of}
use Rattle.tile_core.specs.Plans.{plan_of, shape_of}
use Rattle.tile_core.specs.Cores.{plan_in, state_in}
use Rattle.tile_core.proofs.States.{turn_more}
use Rattle.tile_core.proofs.cores.Core.replay.Goals as goal

pub loop-turn-preserved : goal.loop-turn-preserved
loop-turn-preserved c =
    let i = c.loop-turn.invariant in
    let e = c.step.ensures in
    let d : Turn = record { worker = 0; event = Claim } in record {
      core = e.core;
      plan = e.plan ∙ i.plan;
      wide = e.workers ∙ i.wide;
      rest = turn_more (shape_of (plan_in c.args.self.now)) (state_in c.loop-turn.self) (state_in c.step.new.self)
          (seen_of c.step.result) c.args.turns.now c.loop-turn.turn-index d
          c.loop-turn-test.true
          (ap (λ (pl : Plan). stepped (shape_of pl) (state_in c.loop-turn.self)
          (get_or c.args.turns.now c.loop-turn.turn-index d).worker
          (event_of (get_or c.args.turns.now c.loop-turn.turn-index d).event)) (sym i.plan) ∙ e.step) ∙ i.rest;
      run = λ opening r.
          let q : IsRun (plan_of (plan_in c.loop-turn.self) opening) (state_in c.loop-turn.self) =
          subst (λ (pl : Plan). IsRun (plan_of pl opening) (state_in c.loop-turn.self)) (sym i.plan)
          (i.run opening r) in
          subst (λ (pl : Plan). IsRun (plan_of pl opening) (state_in c.step.new.self)) i.plan (e.run opening q);
    }
