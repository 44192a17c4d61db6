use Rattle.scop_syntax.proofs.Common.{◌^◌, arith, negsuc, pos, refl, neg_ℤ, ints}
use Rattle.contract_callers.proofs.ordered_numbers.numbers_of_128_bits.Goals as goal

pub returns-clause-least : goal.returns-clause-least
returns-clause-least c =
    (c.fits_is_the_range_of_128_bits.ensures.range (neg_ℤ (pos (2 ^ 127)))).1
    (omega (arith, ints), omega (arith, ints))

pub returns-clause-past : goal.returns-clause-past
returns-clause-past c = λ held.
    let range = (c.fits_is_the_range_of_128_bits.ensures.range (pos (2 ^ 127))).0 held in omega (arith, ints, range.1)

pub returns-clause-between : goal.returns-clause-between
returns-clause-between c = λ z. c.fits_is_the_range_of_128_bits.ensures.between (negsuc 7) z (pos 7) refl refl

pub returns-clause-i128 : goal.returns-clause-i128
returns-clause-i128 c = λ n. c.fits_is_the_range_of_128_bits.ensures.i128 (negsuc n)
