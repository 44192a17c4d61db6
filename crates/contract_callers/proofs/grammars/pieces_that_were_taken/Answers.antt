use Rattle.scop_syntax.proofs.Common.{◌∙◌, ap}
use Rattle.scop_grammar.specs.Turns.{ended, turned}
use Rattle.contract_callers.proofs.grammars.pieces_that_were_taken.Goals as goal

pub returns-clause-turn : goal.returns-clause-turn
returns-clause-turn c = λ d n ps s t at is. c.pieces_are_added_behind.ensures.turn d n ps s at ∙ ap (turned ps) is

pub returns-clause-run : goal.returns-clause-run
returns-clause-run c = λ d n ps s t ts is. c.pieces_are_added_behind.ensures.run d n ps s ts ∙ ap (ended ps) is
