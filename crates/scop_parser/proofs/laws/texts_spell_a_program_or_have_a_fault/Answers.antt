use Rattle.scop_parser.proofs.UniquePrograms.{decided}
use Rattle.scop_parser.proofs.laws.texts_spell_a_program_or_have_a_fault.Goals as goal

pub returns : goal.returns
returns c = decided
