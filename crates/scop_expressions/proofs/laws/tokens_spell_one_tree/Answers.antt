use Rattle.scop_expressions.proofs.MachineAnswers.{one_reading}
use Rattle.scop_expressions.proofs.laws.tokens_spell_one_tree.Goals as goal

pub returns : goal.returns
returns c = one_reading
