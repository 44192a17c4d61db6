use Rattle.scop_syntax.proofs.Common.{ap, length, refl, sym, []}
use Rattle.contract_callers.proofs.domains.instances_of_kernels_without_parameters.Goals as goal

pub returns-clause-statement : goal.returns-clause-statement
returns-clause-statement c = λ program v walked.
    let at = c.domains_hold_the_instances.ensures.statement program [] v walked in
    (at.0, at.1.statement, at.1.number)

pub returns-clause-instances : goal.returns-clause-instances
returns-clause-instances c = λ program s v none is.
    (c.domains_hold_the_instances.ensures.instances program [] s v (sym (ap length none)) is).0

pub returns-clause-points : goal.returns-clause-points
returns-clause-points c = λ program s is none among flat holds.
    let at = c.domains_hold_the_instances.ensures.points program [] s [] is (sym (ap length none)) among (sym flat) holds in
    (at.0, at.1.walked, at.1.number)

pub returns-clause-once : goal.returns-clause-once
returns-clause-once c = λ program s i j v is here there.
    c.domains_hold_the_instances.ensures.once program [] s i j v v is is refl here there
