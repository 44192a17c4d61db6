use Rattle.scop_syntax.proofs.Common.{[], codes}
use Rattle.text_callers.proofs.forms.numbers_end_before.Goals as goal

pub returns-clause-at_least : goal.returns-clause-at_least
returns-clause-at_least c = c.forms_end_before.ensures.at_least []

pub returns-clause-equal : goal.returns-clause-equal
returns-clause-equal c = c.forms_end_before.ensures.equal []

pub returns-clause-comma : goal.returns-clause-comma
returns-clause-comma c = c.forms_end_before.ensures.comma []

pub returns-clause-parenthesis : goal.returns-clause-parenthesis
returns-clause-parenthesis c = c.forms_end_before.ensures.parenthesis []

pub returns-clause-bracket : goal.returns-clause-bracket
returns-clause-bracket c = c.forms_end_before.ensures.bracket []

pub returns-clause-semicolon : goal.returns-clause-semicolon
returns-clause-semicolon c = c.forms_end_before.ensures.semicolon []

pub returns-clause-divisor : goal.returns-clause-divisor
returns-clause-divisor c = c.forms_end_before.ensures.divisor []

pub returns-clause-multiple : goal.returns-clause-multiple
returns-clause-multiple c = λ d. c.forms_end_before.ensures.multiple d (codes "i")
