use Rattle.scop_syntax.proofs.Common.{◌+◌, arith, IfOk-weaker}
use Rattle.plain_scan.specs.Hulls.{sets_in}
use Rattle.split_scan.proofs.OutlineCopies.{sets_count}
use Rattle.split_scan.proofs.PartOrder.{one_part}
use Rattle.split_scan.proofs.nodes.parts_by_rows.Goals as goal

pub returns-else-is_apart : goal.returns-else-is_apart
returns-else-is_apart c =
    let level = c.args.level.now in
    let os = c.args.outlines.now in
    let some = c.requires.some in
    IfOk-weaker c.narrowed.result _ _ (λ v h. one_part level.place
    (level.place + 1 + level.parameters) level.inside.items
    (sets_in os) v.items h.0 (omega (arith, sets_count os, some)) h.1 h.3 h.4 h.2) c.narrowed.ensures
