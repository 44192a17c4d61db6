use Rattle.scop_syntax.proofs.Common.{[]}
use Rattle.text_callers.proofs.forms.numbers_are_read_back.Goals as goal

pub returns : goal.returns
returns c = λ form rest. c.forms_are_read_back.ensures [] form rest tt
