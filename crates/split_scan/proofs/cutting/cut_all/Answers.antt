use Rattle.scop_syntax.proofs.Common.{◌+◌, subst, sym}
use Rattle.split_scan.specs.steps.Parts.{IsCell}
use Rattle.split_scan.proofs.NodeParts.{held_next}
use Rattle.split_scan.proofs.cutting.cut_all.Goals as goal

pub loop-cell-preserved : goal.loop-cell-preserved
loop-cell-preserved c =
    let level = c.args.level.now in
    let m = level.place in
    let n = m + 1 + level.parameters in
    let k = c.loop-cell.cell-index in
    let cell = c.cell-item.result in
    let inside = c.loop-cell-test.true in
    let inv = c.loop-cell.invariant in
    let e = c.in_ok-cut.ensures in
    record {
      cells = λ are. e.cells (subst (IsCell m n) (sym c.cell-item.is) (are k cell inside)) (inv.cells are);
      goes = λ params outer x at h. e.goes params outer x at
          (held_next c.args.cells.now k cell c.loop-cell.out.items _ c.cell-item.is inside
          (inv.goes params outer x at) h);
    }
