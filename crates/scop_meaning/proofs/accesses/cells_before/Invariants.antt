use Rattle.scop_syntax.proofs.Common.{◌≡◌, take, total_cells}
use Rattle.scop_meaning.proofs.accesses.cells_before.Given as goal

abbrev pub invariant-loop-at : goal.invariant-loop-at
invariant-loop-at l = l.total ≡ total_cells (take l.at l.extents)
