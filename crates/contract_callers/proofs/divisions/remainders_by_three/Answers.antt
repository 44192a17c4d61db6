use Rattle.scop_syntax.proofs.Common.{arith, refl, pos, negsuc, ints}
use Rattle.contract_callers.proofs.divisions.remainders_by_three.Goals as goal

pub returns-clause-euclid : goal.returns-clause-euclid
returns-clause-euclid c = c.remainders_repeat.ensures.euclid (negsuc 6) (pos 3) (omega (arith, ints))

pub returns-clause-floor : goal.returns-clause-floor
returns-clause-floor c = λ k. c.remainders_repeat.ensures.floor (negsuc 6) (pos 3) k (omega (arith, ints))

pub returns-clause-remainder : goal.returns-clause-remainder
returns-clause-remainder c = λ k. c.remainders_repeat.ensures.remainder (negsuc 6) (pos 3) k (omega (arith, ints))

pub returns-clause-none : goal.returns-clause-none
returns-clause-none c = (c.remainders_repeat.ensures.none (negsuc 5) (pos 3) (omega (arith, ints))).0 refl

pub returns-clause-some : goal.returns-clause-some
returns-clause-some c = λ divides.
    let none = (c.remainders_repeat.ensures.none (negsuc 6) (pos 3) (omega (arith, ints))).1 divides in
    omega (arith, ints, none)
