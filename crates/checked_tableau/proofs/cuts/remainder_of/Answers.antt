use Rattle.whole_numbers.proofs.Common.{rules, arith, FitsSigned, w128, ints, to_z-of_z}
use Rattle.checked_tableau.proofs.cuts.remainder_of.Goals as goal

pub returns-clause-least : goal.returns-clause-least
returns-clause-least c =
    let fits : FitsSigned w128 c.rem_euclid.result = search rules in
    let least = c.rem_euclid.ensures.lower_bound in
    simp to_z-of_z (omega (arith, ints, least))

pub returns-clause-below : goal.returns-clause-below
returns-clause-below c =
    let fits : FitsSigned w128 c.rem_euclid.result = search rules in
    let fits_d : FitsSigned w128 c.args.divisor = c.ranges.divisor in
    let above = c.requires in
    let least = c.rem_euclid.ensures.lower_bound in
    let below = simp to_z-of_z at c.rem_euclid.ensures.upper_bound in
    simp to_z-of_z (omega (arith, ints, above, least, below))
