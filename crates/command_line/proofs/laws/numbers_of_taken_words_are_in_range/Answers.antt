use Rattle.command_line.proofs.NumberRanges.{in_range}
use Rattle.command_line.proofs.laws.numbers_of_taken_words_are_in_range.Goals as goal

pub returns-clause-size : goal.returns-clause-size
returns-clause-size c words taken = (in_range words taken).0

pub returns-clause-least_budget : goal.returns-clause-least_budget
returns-clause-least_budget c words taken = (in_range words taken).1

pub returns-clause-most_budget : goal.returns-clause-most_budget
returns-clause-most_budget c words taken = (in_range words taken).2
