use Rattle.scop_syntax.proofs.Widths.{kernel_keeps, places_keep}
use Rattle.scop_syntax.proofs.value_laws.narrow_cells_stay_narrow.Goals as goal

pub returns-clause-before : goal.returns-clause-before
returns-clause-before c = places_keep

pub returns-clause-behind : goal.returns-clause-behind
returns-clause-behind c = kernel_keeps
