use Rattle.scop_syntax.proofs.Common.{arith, pos, negsuc, ints}
use Rattle.contract_callers.proofs.Quotients.{down, up}
use Rattle.contract_callers.proofs.divisions.bounds_of_minus_seven_by_three.Goals as goal

pub returns-clause-floor_at_least : goal.returns-clause-floor_at_least
returns-clause-floor_at_least c = λ k.
    c.floor_bounds_quotients.ensures.at_least (negsuc 6) (pos 3) (negsuc 2) k (omega (arith, ints)) down

pub returns-clause-floor_at_most : goal.returns-clause-floor_at_most
returns-clause-floor_at_most c = λ k.
    c.floor_bounds_quotients.ensures.at_most (negsuc 6) (pos 3) (negsuc 2) k (omega (arith, ints)) down

pub returns-clause-ceiling_at_most : goal.returns-clause-ceiling_at_most
returns-clause-ceiling_at_most c = λ k.
    c.ceiling_bounds_quotients.ensures.at_most (negsuc 6) (pos 3) (negsuc 1) k (omega (arith, ints)) up

pub returns-clause-ceiling_at_least : goal.returns-clause-ceiling_at_least
returns-clause-ceiling_at_least c = λ k.
    c.ceiling_bounds_quotients.ensures.at_least (negsuc 6) (pos 3) (negsuc 1) k (omega (arith, ints)) up
