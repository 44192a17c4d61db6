use Rattle.whole_numbers.proofs.Common.{◌≡◌, ◌+◌, ◌-◌, Result}
use Rattle.fm_projection.specs.declared.stop.FmStop.{FmStop}
use Rattle.traced_projections.specs.Tracing.{Tracing}
use Rattle.traced_projections.specs.Projections.{GoesTraced}
use Rattle.traced_projections.proofs.alone.all_gone.Given as goal

abbrev pub invariant-loop-time : goal.invariant-loop-time
invariant-loop-time l = record {
  goes : (r : Result Tracing FmStop) → GoesTraced l.place (l.times - l.time) l.left r
      → GoesTraced l.place l.times l.fn.traced r;
  left : l.left.dimensions + l.time ≡ l.fn.traced.dimensions;
}
