use Rattle.scop_syntax.proofs.Common.{List, ap, length, subst, sym, [], In}
use Rattle.integer_sets.specs.Constraints.{Constraints}
use Rattle.contract_callers.proofs.domains.questions_of_kernels_without_parameters.Goals as goal

pub returns-clause-systems : goal.returns-clause-systems
returns-clause-systems c = λ program system among.
    c.outside_points_are_failures.ensures.systems program [] system among

pub returns-clause-each : goal.returns-clause-each
returns-clause-each c = λ program s a d side system asks.
    c.outside_points_are_failures.ensures.each program [] s a d side system asks

pub returns-clause-point : goal.returns-clause-point
returns-clause-point c = λ program s a d side system is none asks flat holds.
    let at = c.outside_points_are_failures.ensures.point program [] s a d side system [] is (sym (ap length none)) asks
    (sym flat) holds in
    (at.0, at.1.walked, at.1.number, at.3)

pub returns-clause-failure : goal.returns-clause-failure
returns-clause-failure c = λ program s a d side system v none asks is fails.
    let law = c.outside_points_are_failures.ensures in
    (law.failure program [] s a d side system v (sym (ap length none)) asks is fails).1

pub returns-clause-inside : goal.returns-clause-inside
returns-clause-inside c = λ program is none nothing.
    c.outside_points_are_failures.ensures.inside program [] is (sym (ap length none))
    (λ system among. absurd (subst (λ (ss : List Constraints). In system ss) nothing among))
