use Rattle.lexmin_runs.proofs.Emptiness.{empty-true, empty-false}
use Rattle.lexmin_runs.proofs.laws.emptiness_is_answered_right.Goals as goal

pub returns : goal.returns
returns c = record { empty = empty-true; point = empty-false }
