use Rattle.command_line.proofs.TakenWords.{names_one}
use Rattle.command_line.proofs.laws.taken_words_name_a_command.Goals as goal

pub returns : goal.returns
returns c words taken = names_one words taken.0
