use Rattle.scop_syntax.proofs.Common.{◌+◌, arith, IfOk-weaker}
use Rattle.plain_scan.specs.Hulls.{sets_in}
use Rattle.split_scan.proofs.OutlineCopies.{sets_count}
use Rattle.split_scan.proofs.PartOrder.{whole_parts}
use Rattle.split_scan.proofs.nodes.parts_of.Goals as goal

pub returns-in-Err-Stopped : goal.returns-in-Err-Stopped
returns-in-Err-Stopped c =
    let level = c.args.level.now in
    let os = c.args.outlines.now in
    let some = c.requires.some in
    IfOk-weaker c.whole.result _ _ (λ v h. whole_parts level.place
    (level.place + 1 + level.parameters) level.inside.items
    (sets_in os) v.items h.0 (omega (arith, sets_count os, some)) h.1 h.2 h.3) c.whole.ensures
