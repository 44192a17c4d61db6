use Rattle.integer_sets.proofs.RunStops.{holds_run-stops}
use Rattle.integer_sets.proofs.laws.tests_stop_at_the_first_wide_value.Goals as goal

pub returns : goal.returns
returns c = holds_run-stops
