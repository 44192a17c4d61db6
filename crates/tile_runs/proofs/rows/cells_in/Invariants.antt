use Rattle.tile_runs.proofs.CountedCells.{AreCounted}
use Rattle.tile_runs.proofs.rows.cells_in.Given as goal

abbrev pub invariant-loop-array : goal.invariant-loop-array
invariant-loop-array l = AreCounted l.arrays l.array l.count
