use Rattle.scop_syntax.proofs.Common.{ap, rules, subst, ◌≡◌, ◌∙◌, ◌<◌, with_item, Ok}
use Rattle.tile_core.specs.Boards.{seen_of}
use Rattle.tile_core.specs.Plans.{place_of, walk_shape}
use Rattle.tile_core.specs.declared.worker.Stage.TheVariants.{Working}
use Rattle.tile_core.specs.declared.worker.Worker.{Worker}
use Rattle.tile_core.proofs.Boards.{at_board, does_last, due_at, is_other, one_at, reads_left, refuses_last}
use Rattle.tile_core.proofs.Boards.{worker_there, workers_kept}
use Rattle.tile_core.proofs.board.Board.last_act.Goals as goal
use Rattle.tile_core.proofs.board.Board.last_act.Goals.{After-at-tile, After-cell_written-at}

pub returns-in_default : goal.returns-in_default
returns-in_default c = record {
  event = refuses_last c.args.plan.now c.args.self.now c.args.id c.index-worker.result.now c.args.adds
      (at_board c.args.self.now c.args.id c.index-worker.result.now c.requires.id (search rules)) c.in_default.ensures.due;
  workers = c.requires.board.workers;
}

pub returns-then-len-reads : goal.returns-then-len-reads
returns-then-len-reads c = record {
  event = reads_left c.args.plan.now c.args.self.now c.args.id c.index-worker.result.now c.in-Some.due.now
      (at_board c.args.self.now c.args.id c.index-worker.result.now c.requires.id (search rules)) c.in-Some.ensures.due
      c.args.adds (search rules);
  workers = c.requires.board.workers;
}

-- where the instance stands
spot : (c : After-at-tile) → (c.index-worker.result.now.stage ≡ Working c.at-tile.result.0 c.at-tile.result.1)
    × (c.at-tile.result.0 < (walk_shape c.args.plan.now).tiles)
    × (c.at-tile.result.1 < (walk_shape c.args.plan.now).size c.at-tile.result.0)
    × (place_of c.args.plan.now c.in-Some.due.now ≡ (walk_shape c.args.plan.now).place c.at-tile.result.0 c.at-tile.result.1)
spot c =
    let plan = c.args.plan.now in
    let w = c.index-worker.result.now in
    due_at plan w c.in-Some.due.now c.at-tile.result
    (worker_there plan c.args.self.now c.args.id w c.requires.board c.requires.id (search rules)) c.in-Some.ensures.due
    c.at-tile.ensures

pub cell_written-at-requires-clause-tile : goal.cell_written-at-requires-clause-tile
cell_written-at-requires-clause-tile c = (spot (goal.at.cell_written-at-requires-clause-tile c).After-at-tile).1

pub cell_written-at-requires-clause-left : goal.cell_written-at-requires-clause-left
cell_written-at-requires-clause-left c = (spot (goal.at.cell_written-at-requires-clause-left c).After-at-tile).2

pub cell_written-at-requires-clause-place : goal.cell_written-at-requires-clause-place
cell_written-at-requires-clause-place c = (spot (goal.at.cell_written-at-requires-clause-place c).After-at-tile).3

inside : (c : After-cell_written-at) → (walk_shape c.args.plan.now).written (place_of c.args.plan.now c.in-Some.due.now)
    < (walk_shape c.args.plan.now).cells
inside c =
    subst (λ n. n < (walk_shape c.args.plan.now).cells) c.cell_written-at.ensures.cell c.cell_written-at.ensures.inside

pub returns-then-adds : goal.returns-then-adds
returns-then-adds c = record {
  event = is_other c.args.plan.now c.args.self.now c.args.id c.index-worker.result.now c.in-Some.due.now
      (at_board c.args.self.now c.args.id c.index-worker.result.now c.requires.id (search rules)) c.in-Some.ensures.due
      c.args.adds (inside (goal.at.returns-then-adds c).After-cell_written-at) (search rules);
  workers = c.requires.board.workers;
}

pub returns : goal.returns
returns c =
    let plan = c.args.plan.now in
    let w = c.index-worker.result.now in
    let due = c.in-Some.ensures.due in
    let place = place_of plan c.in-Some.due.now in
    let adds = c.args.adds in
    let same = one_at c.args.self.now c.args.id c.index_mut-worker.result.now w c.requires.id (search rules)
    (search rules) in
    let value = c.value-value.ensures in record {
      event = does_last plan c.args.self.now c.args.id w c.in-Some.due.now
          (at_board c.args.self.now c.args.id w c.requires.id (search rules)) due adds c.advance.new.self
          (with_item c.args.self.now.cells c.cell_written-at.result c.updated.result) c.value-value.result
          c.requires.board.planned (search rules) (inside (goal.at.returns c).After-cell_written-at) (search rules)
          (value.value ∙ ap (λ (x : Worker). (walk_shape plan).value place x.reads.items) same)
          (search rules)
          (c.advance.ensures.stage due.tile due.count
          (value.stage ∙ (ap (λ (x : Worker). x.stage) same ∙ due.works))) c.advance.ensures.reads
          (seen_of (Ok c.last_seen.result)) c.last_seen.ensures;
      workers = workers_kept plan c.args.self.now c.args.id c.advance.new.self c.requires.board
          c.advance.ensures.worker;
    }
