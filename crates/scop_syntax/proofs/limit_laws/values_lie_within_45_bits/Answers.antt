use Rattle.scop_syntax.proofs.Bounds.{turns_small}
use Rattle.scop_syntax.proofs.limit_laws.values_lie_within_45_bits.Goals as goal

pub returns-clause-turns : goal.returns-clause-turns
returns-clause-turns c = turns_small
