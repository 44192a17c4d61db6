use Rattle.scop_syntax.proofs.Common.{◌≡◌}
use Rattle.tile_core.specs.Passes.{plan_in, walk_in}
use Rattle.tile_core.specs.Views.{executed}
use Rattle.array_words.specs.Loads.{IsNextRead}
use Rattle.array_words.proofs.Loads.{few_read}
use Rattle.array_words.proofs.PassSeats.{at_view, at_worker, seat_of}
use Rattle.array_words.proofs.loading.load.Goals as goal

pub load_at-value-requires : goal.load_at-value-requires
load_at-value-requires c =
    let w = c.args.words.now in
    let p = c.args.pass.now in record {
      seat = seat_of w p c.requires.pass;
      next = at_view w p (λ s xs. IsNextRead (walk_in w) s xs c.args.cell) c.requires.pass c.requires.next;
    }

pub read-requires : goal.read-requires
read-requires c =
    let w = c.args.words.now in
    let worker = c.args.pass.now.worker in
    few_read w (c.walks_are_dealt.ensures.dealt w.plan w.table.shared.key.cells.items c.requires.pass.of.planned)
    (λ j l. c.instances_read_few.ensures w.plan j c.requires.pass.of.planned l) worker.stage worker.reads.items
    c.args.cell c.requires.next

pub returns-clause-value : goal.returns-clause-value
returns-clause-value c =
    at_worker c.args.words.now c.args.pass.now (λ s xs. c.load_at-value.result ≡ executed (plan_in c.args.words.now) s xs)
    c.requires.pass c.load_at-value.ensures.value
