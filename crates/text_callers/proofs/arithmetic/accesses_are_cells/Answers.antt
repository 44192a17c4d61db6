use Rattle.scop_syntax.proofs.Common.{refl, []}
use Rattle.text_callers.proofs.arithmetic.accesses_are_cells.Goals as goal

pub returns : goal.returns
returns c = λ f. c.accesses_are_cells.ensures 0 f [] refl
