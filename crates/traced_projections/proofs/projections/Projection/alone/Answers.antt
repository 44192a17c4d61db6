use Rattle.whole_numbers.proofs.Common.{subst, sym, IfOk}
use Rattle.traced_projections.specs.declared.projections.Projection.{Projection}
use Rattle.traced_projections.specs.Projections.{LastFollows, system_in}
use Rattle.traced_projections.proofs.projections.Projection.alone.Goals as goal

pub returns-in-Exact-clause-points : goal.returns-in-Exact-clause-points
returns-in-Exact-clause-points c =
    subst (λ (p : Projection). IfOk c.exact_alone.result (LastFollows (system_in p))) (sym c.in-Exact.is)
    c.exact_alone.ensures.points

pub returns-in-Traced-clause-points : goal.returns-in-Traced-clause-points
returns-in-Traced-clause-points c =
    subst (λ (p : Projection). IfOk c.alone.result (LastFollows (system_in p))) (sym c.in-Traced.is)
    c.alone.ensures.points
