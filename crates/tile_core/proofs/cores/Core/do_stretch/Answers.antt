use Rattle.tile_core.proofs.States.{EventLaws, stretch_board, stretch_count, stretch_kept}
use Rattle.tile_core.proofs.cores.Core.do_stretch.Goals as goal
use Rattle.tile_core.proofs.cores.Core.do_stretch.Goals.{After-do_stretch}

laws : After-do_stretch → EventLaws
laws c = record {
  step = c.all_interleavings_agree.ensures.step;
  workers = c.events_keep_count.ensures.workers;
  claims = c.events_keep_count.ensures.claims;
}

pub returns-clause-core : goal.returns-clause-core
returns-clause-core c =
    stretch_board (laws (goal.at.returns-clause-core c).After-do_stretch) c.args.self.now.plan c.args.self.now.board
    c.do_stretch.new.self c.args.worker c.do_stretch.result c.do_stretch.ensures c.requires.core

pub returns-clause-run : goal.returns-clause-run
returns-clause-run c =
    stretch_kept (laws (goal.at.returns-clause-run c).After-do_stretch) c.args.self.now.plan c.args.self.now.board
    c.do_stretch.new.self c.args.worker c.do_stretch.result c.do_stretch.ensures

pub returns-clause-workers : goal.returns-clause-workers
returns-clause-workers c =
    stretch_count (laws (goal.at.returns-clause-workers c).After-do_stretch) c.args.self.now.plan
    c.args.self.now.board c.do_stretch.new.self c.args.worker c.do_stretch.result c.do_stretch.ensures
