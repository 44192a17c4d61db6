use Rattle.scop_syntax.proofs.Widths.{types_kept}
use Rattle.scop_syntax.proofs.value_laws.cells_hold_numbers_of_their_types.Goals as goal

pub returns : goal.returns
returns c = types_kept
