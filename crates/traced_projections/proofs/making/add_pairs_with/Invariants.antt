use Rattle.whole_numbers.proofs.Common.{List, drop, Result}
use Rattle.fm_projection.specs.declared.stop.FmStop.{FmStop}
use Rattle.traced_projections.specs.Tracing.{Row}
use Rattle.traced_projections.specs.Eliminating.{Adds, pairs_with}
use Rattle.traced_projections.proofs.making.add_pairs_with.Given as goal

abbrev pub invariant-loop-other : goal.invariant-loop-other
invariant-loop-other l = (c : List Row) (r : Result (Unit {0}) FmStop)
    → Adds l.dimension (pairs_with l.traced l.most l.row (drop l.other-index l.others)) l.out.items c r
    → Adds l.dimension (pairs_with l.traced l.most l.row l.others) l.fn.out.items c r
