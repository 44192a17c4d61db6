use Rattle.scop_syntax.proofs.Common.{[], inl, inr, subst}
use Rattle.pip_solver.specs.Promises.{Empties}
use Rattle.contract_callers.proofs.solver.has_no_point.Goals as goal

pub returns-clause-spent : goal.returns-clause-spent
returns-clause-spent c = λ posed moves is.
    (subst (λ r. Empties r c.args.budget c.args.system.now) is c.is_empty.ensures.run).2

pub returns-clause-wide : goal.returns-clause-wide
returns-clause-wide c = λ posed moves is.
    let told = subst (λ r. Empties r c.args.budget c.args.system.now) is c.is_empty.ensures.run in
    elim told.4 [
      | inl all ↦ inl all
      | inr front ↦ inr (told.0, front.1, front.2)
    ]

pub returns-clause-empty : goal.returns-clause-empty
returns-clause-empty c = λ is x. c.is_empty.ensures.empty is x []

pub returns-clause-point : goal.returns-clause-point
returns-clause-point c = λ is.
    let found = c.is_empty.ensures.point is in
    (found.x, found.p, found.is.not_negative, found.is.inside)
