use Rattle.scop_syntax.proofs.Common.{[], refl}
use Rattle.contract_callers.proofs.projections.fractions_for_one_dimension.Goals as goal

pub returns-clause-gone : goal.returns-clause-gone
returns-clause-gone c = λ s d back positive.
    c.eliminations_are_exact_one_after_another.ensures.gone 0 1 s d [] back positive refl

pub returns-clause-projected : goal.returns-clause-projected
returns-clause-projected c = λ s d front back some positive long.
    c.eliminations_are_exact_one_after_another.ensures.projected 1 s some d front back positive long
