use Rattle.whole_numbers.proofs.Common.{List, drop, map, Result}
use Rattle.fm_projection.specs.declared.stop.FmStop.{FmStop}
use Rattle.traced_projections.specs.Tracing.{Row}
use Rattle.traced_projections.specs.Eliminating.{Adds, single}
use Rattle.traced_projections.proofs.making.add_singles.Given as goal

abbrev pub invariant-loop-row : goal.invariant-loop-row
invariant-loop-row l = (c : List Row) (r : Result (Unit {0}) FmStop)
    → Adds l.dimension (map (single l.traced l.equalities) (drop l.row-index l.rows)) l.out.items c r
    → Adds l.dimension (map (single l.traced l.equalities) l.rows) l.fn.out.items c r
