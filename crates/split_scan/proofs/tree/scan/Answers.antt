use Rattle.scop_syntax.proofs.Common.{rules, [], sym, subst}
use Rattle.loop_tree.specs.View.{nodes_of, trees_in}
use Rattle.plain_scan.specs.Leaving.{LeavesOut}
use Rattle.plain_scan.specs.Outlined.{AreOutlined}
use Rattle.plain_scan.specs.Scanning.{IsScan}
use Rattle.plain_scan.proofs.WholeScans.{nodes_scan, none_scans}
use Rattle.split_scan.proofs.tree.scan.Goals as goal

pub returns-in-Ok-None-clause-scan : goal.returns-in-Ok-None-clause-scan
returns-in-Ok-None-clause-scan c =
    let sets = c.args.sets.now in
    let left : LeavesOut sets [] = search rules in
    subst (λ ns. IsScan sets (nodes_of ns)) (sym c.new.ensures.items) (none_scans sets left)

pub returns-clause-scan : goal.returns-clause-scan
returns-clause-scan c =
    let sets = c.args.sets.now in
    let are : AreOutlined sets c.in-Ok-Some.all = search rules in
    nodes_scan sets c.in-Ok-Some.all (trees_in c.in-Ok.tree) are c.in-Ok.ensures
