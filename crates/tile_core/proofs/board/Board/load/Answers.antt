use Rattle.scop_syntax.proofs.Common.{ap, rules, ◌≡◌, ◌<◌, ◌∙◌, ◌++◌, ◌∷◌, []}
use Rattle.tile_core.specs.Plans.{place_of, walk_shape}
use Rattle.tile_core.specs.declared.worker.Stage.TheVariants.{Working}
use Rattle.tile_core.specs.declared.worker.Worker.{Worker}
use Rattle.tile_core.proofs.Boards.{all_read, at_board, due_at, loads, one_at, refuses_load, worker_there, workers_kept}
use Rattle.tile_core.proofs.board.Board.load.Goals as goal
use Rattle.tile_core.proofs.board.Board.load.Goals.{After-at-tile}

pub returns-in_default : goal.returns-in_default
returns-in_default c = record {
  event = refuses_load c.args.plan.now c.args.self.now c.args.id c.index-worker.result.now
      (at_board c.args.self.now c.args.id c.index-worker.result.now c.requires.id (search rules)) c.in_default.ensures.due;
  workers = c.requires.board.workers;
}

pub returns-then-read-reads : goal.returns-then-read-reads
returns-then-read-reads c = record {
  event = all_read c.args.plan.now c.args.self.now c.args.id c.index-worker.result.now c.in-Some.instance.now
      (at_board c.args.self.now c.args.id c.index-worker.result.now c.requires.id (search rules)) c.in-Some.ensures.due
      (search rules);
  workers = c.requires.board.workers;
}

-- where the instance stands
spot : (c : After-at-tile) → (c.index-worker.result.now.stage ≡ Working c.at-tile.result.0 c.at-tile.result.1)
    × (c.at-tile.result.0 < (walk_shape c.args.plan.now).tiles)
    × (c.at-tile.result.1 < (walk_shape c.args.plan.now).size c.at-tile.result.0)
    × (place_of c.args.plan.now c.in-Some.instance.now ≡ (walk_shape c.args.plan.now).place c.at-tile.result.0 c.at-tile.result.1)
spot c =
    let plan = c.args.plan.now in
    let w = c.index-worker.result.now in
    due_at plan w c.in-Some.instance.now c.at-tile.result
    (worker_there plan c.args.self.now c.args.id w c.requires.board c.requires.id (search rules)) c.in-Some.ensures.due
    c.at-tile.ensures

pub cell_read-requires-clause-tile : goal.cell_read-requires-clause-tile
cell_read-requires-clause-tile c = (spot (goal.at.cell_read-requires-clause-tile c).After-at-tile).1

pub cell_read-requires-clause-left : goal.cell_read-requires-clause-left
cell_read-requires-clause-left c = (spot (goal.at.cell_read-requires-clause-left c).After-at-tile).2

pub cell_read-requires-clause-place : goal.cell_read-requires-clause-place
cell_read-requires-clause-place c = (spot (goal.at.cell_read-requires-clause-place c).After-at-tile).3

pub returns : goal.returns
returns c =
    let same = one_at c.args.self.now c.args.id c.index_mut.result.now c.index-worker.result.now c.requires.id
    (search rules) (search rules) in record {
      event = loads c.args.plan.now c.args.self.now c.args.id c.index-worker.result.now c.in-Some.instance.now
          (at_board c.args.self.now c.args.id c.index-worker.result.now c.requires.id
          (search rules)) c.in-Some.ensures.due c.read.new.self c.cell_at-value.result (search rules) (search rules)
          (c.read.ensures.stage ∙ ap (λ (w : Worker). w.stage) same)
          (c.read.ensures.reads ∙ ap (λ (w : Worker). w.reads.items ++ c.cell_at-value.result ∷ []) same);
      workers = workers_kept c.args.plan.now c.args.self.now c.args.id c.read.new.self c.requires.board
          (c.read.ensures.worker c.args.plan.now
          (worker_there c.args.plan.now c.args.self.now c.args.id c.index_mut.result.now c.requires.board c.requires.id
          (search rules)));
    }
