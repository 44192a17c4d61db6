use Rattle.scop_syntax.proofs.Common.{false}
use Rattle.tile_core.specs.Passes.{walk_in}
use Rattle.array_words.specs.Stores.{IsNextStore}
use Rattle.array_words.proofs.PassSeats.{at_view, seat_of}
use Rattle.array_words.proofs.Stores.{instance_left, stage_after_last}
use Rattle.array_words.proofs.storing.store.Goals as goal

pub store_at-requires : goal.store_at-requires
store_at-requires c =
    let w = c.args.words.now in
    let p = c.args.pass.now in record {
      seat = seat_of w p c.requires.pass;
      next = at_view w p (λ s xs. IsNextStore (walk_in w) s xs c.args.cell c.args.value) c.requires.pass
          c.requires.next;
    }

pub advance-requires-clause-left : goal.advance-requires-clause-left
advance-requires-clause-left c =
    let worker = c.args.pass.now.worker in
    instance_left c.args.words.now false worker.stage worker.reads.items c.args.cell c.args.value c.requires.next

pub returns-clause-stage : goal.returns-clause-stage
returns-clause-stage c =
    let worker = c.args.pass.now.worker in
    stage_after_last c.args.words.now false worker.stage worker.reads.items c.args.cell c.args.value
    c.advance.new.self.stage c.requires.next c.advance.ensures.stage
