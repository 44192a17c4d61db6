use Rattle.scop_syntax.proofs.Common.{rules}
use Rattle.tile_core.proofs.Boards.{at_board, holding_tile, opens, refuses_open, stays_shut, worker_there, workers_kept}
use Rattle.tile_core.proofs.board.Board.open.Goals as goal

pub returns-in_default : goal.returns-in_default
returns-in_default c = record {
  event = refuses_open c.args.plan.now c.args.self.now c.args.id c.index.result.now
      (at_board c.args.self.now c.args.id c.index.result.now c.requires.id (search rules)) c.in_default.not-Holding;
  workers = c.requires.board.workers;
}

pub needs-needs-requires-clause-tile : goal.needs-needs-requires-clause-tile
needs-needs-requires-clause-tile c =
    holding_tile c.args.plan.now c.index.result.now c.in-Holding.tile
    (worker_there c.args.plan.now c.args.self.now c.args.id c.index.result.now c.requires.board c.requires.id
    (search rules)) c.in-Holding.is

pub seen-seen-requires-clause-tile : goal.seen-seen-requires-clause-tile
seen-seen-requires-clause-tile c =
    holding_tile c.args.plan.now c.index.result.now c.in-Holding.tile
    (worker_there c.args.plan.now c.args.self.now c.args.id c.index.result.now c.requires.board c.requires.id
    (search rules)) c.in-Holding.is

pub open-requires-clause-tile : goal.open-requires-clause-tile
open-requires-clause-tile c =
    holding_tile c.args.plan.now c.index.result.now c.in-Holding.tile
    (worker_there c.args.plan.now c.args.self.now c.args.id c.index.result.now c.requires.board c.requires.id
    (search rules)) c.in-Holding.is

pub returns-then-seen-needs : goal.returns-then-seen-needs
returns-then-seen-needs c = record {
  event = stays_shut c.args.plan.now c.args.self.now c.args.id c.in-Holding.tile c.needs-needs.result
      c.seen-seen.result _ c.index.result.now
      (at_board c.args.self.now c.args.id c.index.result.now c.requires.id (search rules)) c.in-Holding.is
      c.needs-needs.ensures c.seen-seen.ensures (search rules) c.shut.ensures;
  workers = c.requires.board.workers;
}

pub returns : goal.returns
returns c = record {
  event = opens c.args.plan.now c.args.self.now c.args.id c.in-Holding.tile c.needs-needs.result c.seen-seen.result
      c.index.result.now _
      (at_board c.args.self.now c.args.id c.index.result.now c.requires.id (search rules)) c.in-Holding.is
      c.needs-needs.ensures c.seen-seen.ensures (search rules) (search rules) (search rules);
  workers = workers_kept c.args.plan.now c.args.self.now c.args.id c.open.new.self c.requires.board
      c.open.ensures.worker;
}
