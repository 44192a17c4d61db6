use Rattle.scop_syntax.proofs.Common.{[], ◌∷◌, pos, negsuc, form_of}
use Rattle.whole_numbers.specs.Content.{gcd_of, lowest_of_form}
use Rattle.fractions.specs.Elimination.{eliminated}
use Rattle.contract_callers.specs.SmallRows.{between}
use Rattle.contract_callers.proofs.fraction_points.one_variable_behind_a_point.Goals as goal

pub returns-clause-step : goal.returns-clause-step
unfolding eliminated lowest_of_form gcd_of
returns-clause-step c = λ d x. c.eliminations_chain.ensures.step 0 [] between d (x ∷ [])

pub returns-clause-end : goal.returns-clause-end
returns-clause-end c = λ d x.
    c.eliminations_chain.ensures.end [] (form_of (negsuc 0 ∷ []) (pos 3) ∷ []) d (x ∷ [])
