use Rattle.scop_parser.proofs.UniquePrograms.{one-program}
use Rattle.scop_parser.proofs.laws.texts_spell_one_program.Goals as goal

pub returns : goal.returns
returns c = one-program
