use Rattle.scop_syntax.proofs.Common.{[], refl, IfOk-weaker, ℤ, List, ◌∷◌}
use Rattle.integer_sets.specs.Points.{Satisfies}
use Rattle.fm_projection.specs.Projecting.{Follow}
use Rattle.traced_projections.specs.Projections.{system_in}
use Rattle.contract_callers.proofs.projections.rest_of.Goals as goal

pub returns : goal.returns
returns c =
    let s = system_in c.args.projection.now in
    IfOk-weaker c.without.result (λ p. Follow 0 s (system_in p))
    (λ p. (x : ℤ) (rest : List ℤ) → Satisfies s (x ∷ rest) → Satisfies (system_in p) rest)
    (λ p follow x rest h. follow [] x rest refl h) c.without.ensures.points
