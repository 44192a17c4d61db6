use Rattle.scop_syntax.proofs.Common.{arith, refl, ◌∙◌, get_or, length-set, in_at}
use Rattle.tile_edges.specs.steps.Touches.{readers_in}
use Rattle.tile_edges.proofs.Taken.{number_at}
use Rattle.tile_edges.proofs.Visits.{entered_all, entered_more, none_entered}
use Rattle.tile_edges.proofs.touching.Traces.read.Goals as goal

pub loop-cell-init : goal.loop-cell-init
loop-cell-init c =
    record { marks = refl; entered = none_entered c.args.tile (readers_in c.args.self.now); long = refl }

pub index_mut-requires : goal.index_mut-requires
index_mut-requires c =
    let long = c.loop-cell.invariant.long in
    let even = c.requires.even in
    let cells = c.args.cells.now in
    let k = c.loop-cell.cell-index in
    let less = c.requires.room (get_or cells k 0) (in_at cells k 0 (omega arith)) in
    omega (arith, long, even, less)

pub loop-cell-preserved : goal.loop-cell-preserved
loop-cell-preserved c =
    let long = c.loop-cell.invariant.long in
    let even = c.requires.even in
    let cells = c.args.cells.now in
    let k = c.loop-cell.cell-index in
    let less = c.requires.room (get_or cells k 0) (in_at cells k 0 (omega arith)) in
    record {
      marks = c.loop-cell.invariant.marks;
      entered = entered_more (λ list. list.items) c.args.cells.now c.loop-cell.cell-index (get_or cells k 0) c.args.tile
          (readers_in c.args.self.now) c.loop-cell.self.readers.items c.index_mut.result.now c.enter.new.list
          (omega arith) (number_at cells k (omega arith)) (omega (arith, long, even, less)) c.index_mut.ensures.value
          c.loop-cell.invariant.entered c.in_ok-enter.ensures;
      long = length-set c.loop-cell.self.readers.items (get_or cells k 0) c.enter.new.list ∙ long;
    }

pub returns-clause-entered : goal.returns-clause-entered
returns-clause-entered c off =
    entered_all c.args.cells.now c.loop-cell.cell-index c.args.tile (readers_in c.args.self.now)
    (readers_in c.loop-cell.self) (omega arith) c.loop-cell.invariant.entered
