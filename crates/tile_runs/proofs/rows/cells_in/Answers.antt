use Rattle.scop_syntax.proofs.Common.{length, ◌<◌, rules}
use Rattle.tile_runs.proofs.CountedCells.{one_counted}
use Rattle.tile_runs.proofs.rows.cells_in.Goals as goal

pub loop-array-preserved : goal.loop-array-preserved
loop-array-preserved c =
    let at = c.loop-array in
    let within : at.array < length c.args.arrays.now = search rules in
    one_counted c.args.arrays.now at.array at.count c.saturating_add-count.result within
    (search rules) at.invariant
