use Rattle.scop_syntax.proofs.Common.{rules}
use Rattle.tile_core.proofs.Boards.{at_board, finishes, not_full, refuses_finish, worker_there, workers_kept}
use Rattle.tile_core.proofs.Boards.{working_tile}
use Rattle.tile_core.proofs.board.Board.finish.Goals as goal

pub returns-in_default : goal.returns-in_default
returns-in_default c = record {
  event = refuses_finish c.args.plan.now c.args.self.now c.args.id c.index.result.now
      (at_board c.args.self.now c.args.id c.index.result.now c.requires.id (search rules)) c.in_default.not-Working;
  workers = c.requires.board.workers;
}

pub size-requires-clause-tile : goal.size-requires-clause-tile
size-requires-clause-tile c =
    working_tile c.args.plan.now c.index.result.now c.in-Working.tile c.in-Working.done
    (worker_there c.args.plan.now c.args.self.now c.args.id c.index.result.now c.requires.board c.requires.id
    (search rules)) c.in-Working.is

pub returns-then-done-size : goal.returns-then-done-size
returns-then-done-size c = record {
  event = not_full c.args.plan.now c.args.self.now c.args.id c.in-Working.tile c.in-Working.done c.index.result.now
      (at_board c.args.self.now c.args.id c.index.result.now c.requires.id (search rules)) c.in-Working.is
      (search rules);
  workers = c.requires.board.workers;
}

pub returns : goal.returns
returns c = record {
  event = finishes c.args.plan.now c.args.self.now c.args.id c.in-Working.tile c.in-Working.done c.index.result.now
      (at_board c.args.self.now c.args.id c.index.result.now c.requires.id (search rules)) c.in-Working.is _
      (search rules) (search rules);
  workers = workers_kept c.args.plan.now c.args.self.now c.args.id c.put.new.self c.requires.board
      (c.put.ensures.worker c.args.plan.now (λ t h. absurd h)
      (worker_there c.args.plan.now c.args.self.now c.args.id c.index_mut.result.now c.requires.board c.requires.id
      (search rules)));
}
