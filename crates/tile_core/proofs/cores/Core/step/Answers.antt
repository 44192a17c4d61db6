use Rattle.scop_syntax.proofs.Common.{length, ap, sym, ◌∙◌}
use Rattle.tile_events.specs.Core.{State, Seen}
use Rattle.tile_core.specs.Boards.{seen_of, event_of, state_of}
use Rattle.tile_core.specs.Plans.{plan_of, shape_of}
use Rattle.tile_core.proofs.States.{EventLaws, board_kept, reads_executed, run_kept, step_shape}
use Rattle.tile_core.proofs.cores.Core.step.Goals as goal

pub returns-clause-core : goal.returns-clause-core
returns-clause-core c =
    let laws : EventLaws = record {
      step = c.all_interleavings_agree.ensures.step;
      workers =
          c.events_keep_count.ensures.workers;
      claims = c.events_keep_count.ensures.claims;
    } in
    board_kept laws c.args.self.now.plan c.args.self.now.board c.act.new.self c.args.worker
    (event_of c.args.event) c.act.result c.act.ensures c.requires.core

pub returns-clause-run : goal.returns-clause-run
returns-clause-run c = λ opening run.
    let laws : EventLaws = record {
      step = c.all_interleavings_agree.ensures.step;
      workers =
          c.events_keep_count.ensures.workers;
      claims = c.events_keep_count.ensures.claims;
    } in
    run_kept laws c.args.self.now.plan opening c.args.self.now.board c.act.new.self c.args.worker
    (event_of c.args.event) c.act.result c.act.ensures run

pub returns-clause-reads : goal.returns-clause-reads
returns-clause-reads c = λ opening run t k x xs here read.
    reads_executed c.all_interleavings_agree.ensures.loads (plan_of c.args.self.now.plan opening)
    (state_of c.args.self.now.board) c.args.worker t k x xs (event_of c.args.event) run here
    (ap (λ (y : State × Seen). y.1)
    (step_shape c.args.self.now.plan opening (state_of c.args.self.now.board) c.args.worker (event_of c.args.event)
    ∙ c.act.ensures.event) ∙ ap seen_of read)

pub returns-clause-workers : goal.returns-clause-workers
returns-clause-workers c =
    ap (λ (y : State × Seen). length y.0.workers) (sym c.act.ensures.event)
    ∙ c.events_keep_count.ensures.workers (shape_of c.args.self.now.plan)
    (state_of c.args.self.now.board) c.args.worker (event_of c.args.event)
