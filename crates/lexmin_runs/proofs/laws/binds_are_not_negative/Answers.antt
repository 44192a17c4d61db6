use Rattle.lexmin_runs.proofs.BoundSigns.{lexmin-up}
use Rattle.lexmin_runs.proofs.laws.binds_are_not_negative.Goals as goal

pub returns : goal.returns
returns c = lexmin-up
