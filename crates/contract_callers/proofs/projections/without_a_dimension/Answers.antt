use Rattle.scop_syntax.proofs.Common.{◌≡◌, ◌-◌, ℕ, Result, Ok, Err, IfOk, ap}
use Rattle.integer_sets.specs.Constraints.{Constraints}
use Rattle.fm_projection.specs.Projecting.{Drops}
use Rattle.fm_projection.specs.declared.stop.FmStop.{FmStop}
use Rattle.contract_callers.proofs.projections.without_a_dimension.Goals as goal

-- what is left has a dimension less
fewer : (i : ℕ) (s : Constraints) (r : Result Constraints FmStop) → Drops i s r
    → IfOk r (λ left. left.dimensions ≡ s.dimensions - 1)
fewer i s (Ok left) drops = ap (λ t. t.dimensions) drops.1
fewer i s (Err stop) drops = tt

pub returns : goal.returns
returns c = fewer c.args.dimension c.args.system.now c.without.result c.without.ensures
