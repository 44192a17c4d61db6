use Rattle.quast_joins.proofs.JoinSigns.{join-up}
use Rattle.quast_joins.proofs.laws.joins_keep_the_signs_of_binds.Goals as goal

pub returns : goal.returns
returns c = join-up
