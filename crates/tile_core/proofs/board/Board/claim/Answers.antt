use Rattle.scop_syntax.proofs.Common.{rules, subst, ◌<◌}
use Rattle.tile_core.specs.Plans.{shape_of}
use Rattle.tile_core.proofs.Boards.{at_board, claims_tile, claims_none, refuses_claim, room, worker_there, workers_kept}
use Rattle.tile_core.proofs.board.Board.claim.Goals as goal

pub returns-in_default : goal.returns-in_default
returns-in_default c = record {
  event = refuses_claim c.args.plan.now c.args.self.now c.args.id c.index.result.now
      (at_board c.args.self.now c.args.id c.index.result.now c.requires.id (search rules)) c.in_default.not-Idle;
  workers = c.requires.board.workers;
}

pub overflow_add-self : goal.overflow_add-self
overflow_add-self c = let r = room c.args.plan.now c.args.self.now c.requires.board in search rules

pub returns-then-claimed-tiles : goal.returns-then-claimed-tiles
returns-then-claimed-tiles c =
    let plan = c.args.plan.now in
    let less : c.args.self.now.claims < (shape_of plan).tiles = search rules in
    record {
      event = claims_tile plan c.args.self.now c.args.id c.index.result.now _
          (at_board c.args.self.now c.args.id c.index.result.now c.requires.id (search rules))
          (search rules) less (search rules);
      workers = workers_kept plan c.args.self.now c.args.id c.put.new.self c.requires.board
          (c.put.ensures.worker plan (λ t h. subst (λ n. n < (shape_of plan).tiles) h less)
          (worker_there plan c.args.self.now c.args.id c.index_mut.result.now c.requires.board c.requires.id
          (search rules)));
    }

pub returns-else-claimed-tiles : goal.returns-else-claimed-tiles
returns-else-claimed-tiles c =
    let plan = c.args.plan.now in record {
      event = claims_none plan c.args.self.now c.args.id c.index.result.now _
          (at_board c.args.self.now c.args.id c.index.result.now c.requires.id (search rules))
          (search rules) (search rules) (search rules);
      workers = workers_kept plan c.args.self.now c.args.id c.put-else-claimed-tiles.new.self c.requires.board
          (c.put-else-claimed-tiles.ensures.worker plan (λ t h. absurd h)
          (worker_there plan c.args.self.now c.args.id c.index_mut-else-claimed-tiles.result.now c.requires.board
          c.requires.id (search rules)));
    }
