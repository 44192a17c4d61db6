use Rattle.scop_syntax.proofs.Falls.{condition_falls}
use Rattle.scop_syntax.proofs.walk_laws.loops_walk_while_their_condition_holds.Goals as goal

pub returns-clause-falls : goal.returns-clause-falls
returns-clause-falls c = condition_falls
