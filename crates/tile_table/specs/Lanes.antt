-- Numbers that go on by equal steps, modulo 2^64.
use Rattle.std.specs.Prelude.{◌≡◌, ◌+◌, ◌%◌, ◌^◌, ℕ, ℤ, List, slice_get, Some}
use Rattle.whole_numbers.specs.Affine.{Affine, value_of}
use Rattle.whole_numbers.specs.Lists.{sums}
use Rattle.scop_syntax.specs.Values.{wrapped}
use Rattle.tile_table.specs.declared.lane.Lane.{Lane}

-- the lane stands at a form's value at these turns, and its step is what these steps add to the value at any turns
pub record IsLane (form : Affine) (steps turns : List ℤ) (lane : Lane) : Type 0 where
  pub at : lane.at ≡ wrapped (value_of form turns)
  pub step : (ts : List ℤ)
      → wrapped (value_of form (sums ts steps)) ≡ (wrapped (value_of form ts) + lane.step) % 2 ^ 64

-- each form has the lane of its number, as far as there are lanes
pub record AreLanes (forms : List Affine) (steps turns : List ℤ) (lanes : List Lane) : Type 0 where
  pub each : (a : ℕ) (form : Affine) (lane : Lane) → slice_get forms a ≡ Some form → slice_get lanes a ≡ Some lane
      → IsLane form steps turns lane
