use Rattle.quast_joins.proofs.JoinTurns.{join-tells}
use Rattle.quast_joins.proofs.laws.joins_can_be_told.Goals as goal

pub returns : goal.returns
returns c = join-tells
