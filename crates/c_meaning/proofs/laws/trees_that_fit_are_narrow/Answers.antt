use Rattle.c_meaning.proofs.RangesHold.{fitting_narrow}
use Rattle.c_meaning.proofs.laws.trees_that_fit_are_narrow.Goals as goal

pub returns : goal.returns
returns c = fitting_narrow
