use Rattle.command_line.proofs.TakenWords.{taken_or_none}
use Rattle.command_line.proofs.laws.other_names_alone_are_not_taken.Goals as goal

pub returns : goal.returns
returns c = taken_or_none
