use Rattle.scop_syntax.proofs.Common.{ap, length, sym, []}
use Rattle.contract_callers.proofs.domains.cells_of_kernels_without_parameters.Goals as goal

pub returns : goal.returns
returns c = λ program s v none is. c.accesses_touch_the_cells.ensures program [] s v (sym (ap length none)) is
