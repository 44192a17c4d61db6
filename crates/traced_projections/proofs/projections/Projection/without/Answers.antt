use Rattle.whole_numbers.proofs.Common.{subst, sym}
use Rattle.fm_projection.specs.Projecting.{Follow}
use Rattle.fm_projection.proofs.WholePoints.{follow}
use Rattle.traced_projections.specs.declared.projections.Projection.{Projection}
use Rattle.traced_projections.specs.Tracing.{constraints_of}
use Rattle.traced_projections.specs.Projections.{system_in}
use Rattle.traced_projections.proofs.projections.Projection.without.Goals as goal

pub returns-in-Ok-clause-points : goal.returns-in-Ok-clause-points
returns-in-Ok-clause-points c =
    let i = c.args.dimension in
    subst (λ (p : Projection). Follow i (system_in p) c.in-Ok.left) (sym c.in-Exact.is)
    (subst (Follow i c.in-Exact.system) (sym c.in-Ok.ensures.1) (follow i c.in-Exact.system))

pub returns-in-Ok-without-clause-points : goal.returns-in-Ok-without-clause-points
returns-in-Ok-without-clause-points c =
    let i = c.args.dimension in
    subst (λ (p : Projection). Follow i (system_in p) (constraints_of c.in-Ok-without.left)) (sym c.in-Traced.is)
    c.in-Ok-without.ensures.points
