-- What the steps of reading a case require; only for the code's own steps.
use Rattle.std.specs.Prelude.{ℕ, ◌≤◌, ◌^◌, ℤ, List, length, All}
use Rattle.scop_syntax.specs.Execution.{total_cells}
use Rattle.scop_syntax.specs.Limits.{AreInRange}

-- at most four parameters in range
pub record AreParameters (params : List ℤ) : Type 0 where
  pub few : length params ≤ 4
  pub values : AreInRange params

-- at most four extents below 2^23
pub record AreSizes (extents : List ℕ) : Type 0 where
  pub few : length extents ≤ 4
  pub sizes : All (λ e. e ≤ 2 ^ 23) extents

-- at most 16 arrays of such extents
pub record AreLayouts (layouts : List (List ℕ)) : Type 0 where
  pub few : length layouts ≤ 16
  pub each : All AreSizes layouts

-- such arrays, with at most 2^22 cells in all
pub record IsLayout (layouts : List (List ℕ)) : Type 0 where
  pub arrays : AreLayouts layouts
  pub cells : total_cells layouts ≤ 2 ^ 22
