use Rattle.scop_syntax.proofs.Common.{List, ℤ, Affine}
use Rattle.tile_table.specs.Lanes.{AreLanes}
use Rattle.tile_table.proofs.Lanes.{AreOn}
use Rattle.tile_table.proofs.lane.go_on_all.Given as goal

abbrev pub invariant-loop-at : goal.invariant-loop-at
invariant-loop-at l =
    (forms : List Affine) (steps turns : List ℤ) → AreLanes forms steps turns l.fn.lanes
    → AreOn l.at forms steps turns l.lanes
