use Rattle.tile_runs.proofs.Cells.{IsBack}
use Rattle.tile_runs.proofs.rows.put_back.Given as goal

abbrev pub invariant-loop-array : goal.invariant-loop-array
invariant-loop-array l = IsBack l.fn.arrays l.row l.array l.start l.arrays
