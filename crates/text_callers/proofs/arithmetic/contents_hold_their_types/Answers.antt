use Rattle.scop_syntax.proofs.Common.{[]}
use Rattle.text_callers.proofs.arithmetic.contents_hold_their_types.Goals as goal

pub returns : goal.returns
returns c = λ words s t contents. c.contents_hold_their_types.ensures words s 0 t [] [] contents
