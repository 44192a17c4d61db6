use Rattle.scop_syntax.proofs.Common.{[], ◌∷◌, ◌∙◌, ap, arith, length, length-append, subst, sym}
use Rattle.array_words.specs.Loads.{IsNextRead}
use Rattle.tile_core.specs.Passes.{walk_in}
use Rattle.tile_core.specs.declared.worker.Stage.{Stage}
use Rattle.tile_core.proofs.Boards.{due_at}
use Rattle.tile_runner.proofs.NextCopies.{copy_read}
use Rattle.tile_runner.proofs.copies.load_all.Goals as goal

pub cell_read-cell-requires-clause-tile : goal.cell_read-cell-requires-clause-tile
cell_read-cell-requires-clause-tile c =
    (due_at c.args.words.now.plan c.args.pass.now.worker c.args.instance.now c.at-tile.result c.requires.pass.worker
    c.requires.due c.at-tile.ensures).1

pub cell_read-cell-requires-clause-left : goal.cell_read-cell-requires-clause-left
cell_read-cell-requires-clause-left c =
    (due_at c.args.words.now.plan c.args.pass.now.worker c.args.instance.now c.at-tile.result c.requires.pass.worker
    c.requires.due c.at-tile.ensures).2

pub cell_read-cell-requires-clause-place : goal.cell_read-cell-requires-clause-place
cell_read-cell-requires-clause-place c =
    (due_at c.args.words.now.plan c.args.pass.now.worker c.args.instance.now c.at-tile.result c.requires.pass.worker
    c.requires.due c.at-tile.ensures).3

pub cell_read-cell-requires-clause-read : goal.cell_read-cell-requires-clause-read
cell_read-cell-requires-clause-read c =
    let end = c.reads-read-end.ensures.count in
    let less = c.loop-read-test.true in
    omega (arith, end, less)

pub load-requires-clause-next : goal.load-requires-clause-next
load-requires-clause-next c =
    let w = c.args.words.now in
    let is = c.loop-read.invariant in
    let end = c.reads-read-end.ensures.count in
    let less = c.loop-read-test.true in
    let xs = c.loop-read.pass.worker.reads.items in
    subst (λ (u : Stage). IsNextRead (walk_in w) u xs c.cell_read-cell.result) (sym is.stage)
    (copy_read w.plan c.args.pass.now.worker.stage c.args.instance.now c.requires.due w.table.shared.key.cells.items xs
    c.loop-read.read c.cell_read-cell.result is.count (omega (arith, end, less)) c.cell_read-cell.ensures.cell)

pub loop-read-preserved : goal.loop-read-preserved
loop-read-preserved c =
    let is = c.loop-read.invariant in
    let count = is.count in
    let longer = ap length c.load.ensures.reads ∙ length-append c.loop-read.pass.worker.reads.items (c.load.result ∷ [])
    in record {
      pass = c.load.ensures.pass;
      stage = c.load.ensures.stage ∙ is.stage;
      count = omega (arith, count, longer);
    }
