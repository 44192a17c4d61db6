use Rattle.scop_arithmetic.proofs.Places.{cell_same}
use Rattle.scop_arithmetic.proofs.laws.accesses_are_cells.Goals as goal

pub returns : goal.returns
returns c n f p long h = cell_same n f p long h
