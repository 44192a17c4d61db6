-- Desks, and rows of a table that are laid on them.
use Rattle.std.specs.Prelude.{◌≡◌, ◌+◌, ◌≤◌, ℕ, ℤ, List, length, slice_get, Some}
use Rattle.tile_table.specs.Lanes.{AreLanes}
use Rattle.tile_table.specs.declared.desk.Desk.{Desk}
use Rattle.tile_table.specs.declared.table.Row.{Row}
use Rattle.tile_table.specs.declared.table.Table.{Table}

-- a desk has a lane for each cell and each affine part of a row, and the slots of its code
pub record HasRoom (row : Row) (desk : Desk) : Type 0 where
  pub cells : length row.cells.items ≤ length desk.cells.items
  pub leaves : length row.code.leaves.items ≤ length desk.leaves.items
  pub slots : row.code.reads + length row.code.steps.items ≤ length desk.slots.items

-- for each row of a table
pub record HasRoomForAll (table : Table) (desk : Desk) : Type 0 where
  pub each : (k : ℕ) (row : Row) → slice_get table.rows.items k ≡ Some row → HasRoom row desk

-- there is as much room as before
pub record HasSameRoom (before after : Desk) : Type 0 where
  pub cells : length after.cells.items ≡ length before.cells.items
  pub leaves : length after.leaves.items ≡ length before.leaves.items
  pub slots : length after.slots.items ≡ length before.slots.items

-- the lanes of a row's cells and affine parts, as far as the desk has them (`HasRoom`: all), stand at these turns and go
-- on by these steps
pub record IsLaid (row : Row) (steps turns : List ℤ) (desk : Desk) : Type 0 where
  pub cells : AreLanes row.cells.items steps turns desk.cells.items
  pub leaves : AreLanes row.code.leaves.items steps turns desk.leaves.items
