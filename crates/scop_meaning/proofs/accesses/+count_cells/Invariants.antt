use Rattle.scop_syntax.proofs.Common.{length}
use Rattle.scop_meaning.proofs.accesses.+count_cells.Given as goal

abbrev pub decreases-count_cells : goal.decreases-count_cells
decreases-count_cells l = length l.extents.now
