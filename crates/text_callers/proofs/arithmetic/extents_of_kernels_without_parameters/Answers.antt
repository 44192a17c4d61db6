use Rattle.scop_syntax.proofs.Common.{sym, []}
use Rattle.text_callers.proofs.arithmetic.extents_of_kernels_without_parameters.Goals as goal

pub returns : goal.returns
returns c = λ words s at w fs flat. c.extents_are_whole_numbers.ensures words s at w fs 0 [] [] (sym flat)
