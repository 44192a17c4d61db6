use Rattle.scop_syntax.proofs.Common.{ap, rules, ◌∙◌, ◌+◌, ◌%◌, ◌^◌, [], with_item}
use Rattle.tile_core.specs.declared.worker.Worker.{Worker}
use Rattle.tile_core.proofs.Boards.{at_board, one_at, refuses_release, releases, worker_there, workers_kept}
use Rattle.tile_core.proofs.board.Board.release.Goals as goal

pub returns-in_default : goal.returns-in_default
returns-in_default c =
    let plan = c.args.plan.now in
    let w = c.index.result.now in record {
      event = refuses_release plan c.args.self.now c.args.id w
          (at_board c.args.self.now c.args.id w c.requires.id (search rules)) c.requires.board.planned
          (c.walks_are_dealt.ensures.dealt plan [] c.requires.board.planned)
          (worker_there plan c.args.self.now c.args.id w c.requires.board c.requires.id (search rules))
          c.in_default.ensures;
      workers = c.requires.board.workers;
    }

pub returns : goal.returns
returns c =
    let plan = c.args.plan.now in
    let w = c.index.result.now in
    let r = c.in-Some.ensures in
    let same = one_at c.args.self.now c.args.id c.index_mut.result.now w c.requires.id (search rules) (search rules) in
    record {
      event = releases plan c.args.self.now c.args.id c.in-Some.next w
          (at_board c.args.self.now c.args.id w c.requires.id (search rules)) r c.requires.board c.pass_release.new.self
          (with_item c.args.self.now.cells c.counter-at.result ((c.cell_at-held.result + 1) % 2 ^ 64))
          c.counter-at.result c.counter-at.ensures.counter (search rules)
          (c.pass_release.ensures.stage r.tile r.count (ap (λ (x : Worker). x.stage) same ∙ r.works))
          c.pass_release.ensures.reads;
      workers = workers_kept plan c.args.self.now c.args.id c.pass_release.new.self c.requires.board
          c.pass_release.ensures.worker;
    }
