use Rattle.scop_syntax.proofs.Common.{◌+◌, All, subst, sym}
use Rattle.split_scan.specs.steps.Questions.{IsCut}
use Rattle.split_scan.proofs.NodeParts.{near_goes, one_cell}
use Rattle.split_scan.proofs.cutting.cut.Goals as goal

pub returns-then-not-cuts-clause-cells : goal.returns-then-not-cuts-clause-cells
returns-then-not-cuts-clause-cells c is olds =
    let level = c.args.level.now in
    let m = level.place in
    let n = m + 1 + level.parameters in
    let made = c.in_ok-push_same.ensures in
    one_cell m n c.args.out.now.items c.push_same.new.out.items made.0 made.1
    (subst (All (IsCut m n)) (sym made.2) is) olds

pub returns-then-not-cuts-clause-goes : goal.returns-then-not-cuts-clause-goes
returns-then-not-cuts-clause-goes c params outer x at held =
    let made = c.in_ok-push_same.ensures in
    near_goes c.args.cell.now.cuts.items c.args.out.now.items c.push_same.new.out.items made.0 _ made.2 made.1 held
