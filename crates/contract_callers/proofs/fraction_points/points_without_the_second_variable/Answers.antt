use Rattle.scop_syntax.proofs.Common.{[], ◌∷◌, arith}
use Rattle.whole_numbers.specs.Content.{gcd_of, lowest_of_form}
use Rattle.fractions.specs.Elimination.{eliminated}
use Rattle.contract_callers.specs.SmallRows.{between, from_one, meeting}
use Rattle.contract_callers.proofs.fraction_points.points_without_the_second_variable.Goals as goal

pub returns-clause-exact : goal.returns-clause-exact
unfolding eliminated lowest_of_form gcd_of
returns-clause-exact c = λ d x y.
    c.elimination_is_exact_over_fractions.ensures.exact 1 [] between d (x ∷ y ∷ []) (omega arith)

pub returns-clause-equality : goal.returns-clause-equality
unfolding eliminated lowest_of_form gcd_of
returns-clause-equality c = λ d x y.
    c.elimination_is_exact_over_fractions.ensures.exact 1 meeting (from_one ∷ []) d (x ∷ y ∷ []) (omega arith)

pub returns-clause-absent : goal.returns-clause-absent
unfolding eliminated lowest_of_form gcd_of
returns-clause-absent c = c.elimination_is_exact_over_fractions.ensures.absent 1 meeting (from_one ∷ [])
