use Rattle.scop_syntax.proofs.Common.{◌≡◌, ◌<◌, ℕ, Some, slice_get, Affine}
use Rattle.tile_table.specs.Lanes.{IsLane}
use Rattle.tile_table.specs.declared.lane.Lane.{Lane}
use Rattle.tile_table.proofs.lane.lay_all.Given as goal

abbrev pub invariant-loop-at : goal.invariant-loop-at
invariant-loop-at l =
    (a : ℕ) (form : Affine) (lane : Lane) → a < l.at → slice_get l.forms a ≡ Some form
    → slice_get l.lanes a ≡ Some lane → IsLane form l.steps l.turns lane
