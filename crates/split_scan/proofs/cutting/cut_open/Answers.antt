use Rattle.scop_syntax.proofs.Common.{◌+◌, All, subst, sym}
use Rattle.split_scan.specs.steps.Questions.{IsCut}
use Rattle.split_scan.proofs.NodeParts.{near_goes, one_cell}
use Rattle.split_scan.proofs.cutting.cut_open.Goals as goal

pub loop-row-preserved : goal.loop-row-preserved
loop-row-preserved c =
    let inv = c.loop-row.invariant in
    let e = c.in_ok-cut_by.ensures in
    record {
      cuts = λ is. e.cuts (inv.cuts is);
      cells = λ is olds. e.cells (inv.cuts is) (inv.cells is olds);
      goes = λ params outer x at h. e.goes params outer x at (inv.goes params outer x at h);
      sized = e.sized;
    }

pub returns-clause-cells : goal.returns-clause-cells
returns-clause-cells c is olds =
    let level = c.args.level.now in
    let m = level.place in
    let n = m + 1 + level.parameters in
    let made = c.in_ok-push_cell.ensures in
    one_cell m n c.loop-row.out.items c.push_cell.new.out.items made.0 made.1
    (subst (All (IsCut m n)) (sym made.2) (c.loop-row.invariant.cuts is)) (c.loop-row.invariant.cells is olds)

pub returns-clause-goes : goal.returns-clause-goes
returns-clause-goes c params outer x at held =
    let made = c.in_ok-push_cell.ensures in
    near_goes c.loop-row.cuts.items c.loop-row.out.items c.push_cell.new.out.items made.0 _ made.2 made.1
    (c.loop-row.invariant.goes params outer x at held)
