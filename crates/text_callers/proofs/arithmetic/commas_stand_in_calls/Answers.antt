use Rattle.text_callers.proofs.arithmetic.commas_stand_in_calls.Goals as goal

pub returns : goal.returns
returns c = λ look. c.commas_stand_in_calls.ensures look 0
