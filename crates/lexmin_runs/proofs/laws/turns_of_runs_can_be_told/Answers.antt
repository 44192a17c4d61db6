use Rattle.lexmin_runs.proofs.TurnNumbers.{lexmin-tells}
use Rattle.lexmin_runs.proofs.laws.turns_of_runs_can_be_told.Goals as goal

pub returns : goal.returns
returns c = lexmin-tells
