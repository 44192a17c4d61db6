use Rattle.scop_syntax.proofs.Common.{◌≤◌, subst}
use Rattle.command_line.specs.Command.{HasSize, budget_of}
use Rattle.command_line.specs.declared.command.Command.{Command}
use Rattle.command_callers.proofs.numbers_of_words.Goals as goal

pub returns-clause-size : goal.returns-clause-size
returns-clause-size c = λ words generated options is.
    let sized = subst HasSize is.1 (c.numbers_of_taken_words_are_in_range.ensures.size words is.0) in (sized.0, sized.1)

pub returns-clause-least_budget : goal.returns-clause-least_budget
returns-clause-least_budget c = λ words budget is.
    subst (λ (asked : Command). 1 ≤ budget_of asked) is.1
    (c.numbers_of_taken_words_are_in_range.ensures.least_budget words is.0)

pub returns-clause-most_budget : goal.returns-clause-most_budget
returns-clause-most_budget c = λ words budget is.
    subst (λ (asked : Command). budget_of asked ≤ 20000) is.1
    (c.numbers_of_taken_words_are_in_range.ensures.most_budget words is.0)
