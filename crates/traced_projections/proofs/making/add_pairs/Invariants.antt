use Rattle.whole_numbers.proofs.Common.{List, drop, Result}
use Rattle.fm_projection.specs.declared.stop.FmStop.{FmStop}
use Rattle.traced_projections.specs.Tracing.{Row}
use Rattle.traced_projections.specs.Eliminating.{Adds, pairs}
use Rattle.traced_projections.proofs.making.add_pairs.Given as goal

abbrev pub invariant-loop-row : goal.invariant-loop-row
invariant-loop-row l = (c : List Row) (r : Result (Unit {0}) FmStop)
    → Adds l.dimension (pairs l.traced l.most (drop l.row-index l.rows) l.others) l.out.items c r
    → Adds l.dimension (pairs l.traced l.most l.rows l.others) l.fn.out.items c r
