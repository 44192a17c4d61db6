use Rattle.scop_syntax.proofs.Common.{arith, pos, ints}
use Rattle.contract_callers.proofs.Evens.{half_of, pair}
use Rattle.contract_callers.proofs.worked_dependences.each_even_turn_to_the_next.Goals as goal

pub returns-clause-even : goal.returns-clause-even
returns-clause-even c q = pair q

pub returns-clause-below : goal.returns-clause-below
returns-clause-below c y h = let (q, least, is) = half_of (pos 0) y h in omega (arith, ints, least, is)

pub returns-clause-odd : goal.returns-clause-odd
returns-clause-odd c y h = let (q, least, is) = half_of (pos 5) y h in omega (arith, ints, is)
