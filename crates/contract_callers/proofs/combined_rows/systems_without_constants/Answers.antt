use Rattle.scop_syntax.proofs.Common.{refl, All-from_recursion}
use Rattle.whole_numbers.specs.Content.{gcd_of, lowest_of_form}
use Rattle.fractions.specs.Elimination.{eliminated}
use Rattle.fractions.specs.Farkas.{IsHomogeneous}
use Rattle.contract_callers.specs.SmallRows.{matching, multipliers}
use Rattle.contract_callers.proofs.combined_rows.systems_without_constants.Goals as goal

pub returns-clause-eliminated : goal.returns-clause-eliminated
unfolding eliminated lowest_of_form gcd_of
returns-clause-eliminated c =
    c.eliminations_stay_homogeneous.ensures.eliminated 2 matching multipliers
    (All-from_recursion IsHomogeneous matching (refl, (refl, tt)))
    (All-from_recursion IsHomogeneous multipliers (refl, (refl, tt)))

pub returns-clause-narrowed : goal.returns-clause-narrowed
returns-clause-narrowed c =
    c.eliminations_stay_homogeneous.ensures.narrowed 1 multipliers
    (All-from_recursion IsHomogeneous multipliers (refl, (refl, tt)))
