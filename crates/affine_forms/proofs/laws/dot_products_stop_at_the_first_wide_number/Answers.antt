use Rattle.std.proofs.Common.{pos}
use Rattle.affine_forms.proofs.RunStops.{dot_run-stops}
use Rattle.affine_forms.proofs.laws.dot_products_stop_at_the_first_wide_number.Goals as goal

pub returns : goal.returns
returns c = dot_run-stops (pos 0)
