use Rattle.scop_syntax.proofs.Common.{◌≡◌, ◌-◌, Result, Ok, Err, IfOk, ap, subst}
use Rattle.integer_sets.specs.Constraints.{Constraints}
use Rattle.fm_projection.specs.Alone.{LeavesAlone, ranged}
use Rattle.fm_projection.specs.Projecting.{all_gone}
use Rattle.fm_projection.specs.declared.stop.FmStop.{FmStop}
use Rattle.contract_callers.proofs.projections.last_of.Goals as goal

-- nothing goes where the last dimension is alone
alone : (s : Constraints) (r : Result Constraints FmStop) → LeavesAlone s r
    → IfOk r (λ left. s.dimensions ≡ 1 → s.parameters ≡ 0 → left.equalities ≡ s.equalities)
alone s (Ok left) is = λ one none.
    let last = subst (λ n. left ≡ all_gone 1 s.parameters (all_gone 0 (n - 1) (ranged s))) one is.2 in
    ap (λ t. t.equalities) (subst (λ m. left ≡ all_gone 1 m (all_gone 0 (1 - 1) (ranged s))) none last)
alone s (Err stop) is = tt

pub returns : goal.returns
returns c = alone c.args.system.now c.last_alone.result c.last_alone.ensures
