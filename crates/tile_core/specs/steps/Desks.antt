-- A worker's desk at an instance of a plan, and the cells that it goes to.
use Rattle.std.specs.Prelude.{◌≡◌, ◌≤◌, ℕ, ℤ, List, length, slice_get, Some}
use Rattle.whole_numbers.specs.Affine.{Affine, value_of}
use Rattle.scop_syntax.specs.Values.{wrapped}
use Rattle.scop_syntax.specs.Walk.{Instance}
use Rattle.tile_table.specs.Desks.{HasRoom, HasSameRoom, IsLaid}
use Rattle.tile_table.specs.declared.desk.Desk.{Desk}
use Rattle.tile_table.specs.declared.table.Row.{Row}
use Rattle.tile_core.specs.Plans.{plain_shape}
use Rattle.tile_core.specs.Rows.{IsRowAt}
use Rattle.tile_core.specs.declared.plan.Plan.{Plan}

-- what an access's number is said to be wherever the desk is laid: the value of the access's form
abbrev pub TellsCell : Row → Desk → ℕ → ℕ → Type 0
TellsCell row desk access number =
    (steps turns : List ℤ) (form : Affine) → IsLaid row steps turns desk
    → slice_get row.cells.items access ≡ Some form → number ≡ wrapped (value_of form turns)

-- the desk is laid for a row at an instance that the row tells of, to go on by these steps
pub record IsDeskAt (plan : Plan) (row : Row) (steps : List ℤ) (x : Instance) (desk : Desk) : Type 0 where
  pub tells : IsRowAt plan row x
  pub room : HasRoom row desk
  pub laid : IsLaid row steps x.turns desk

-- so for some plan whose cells are among these
pub record StandsIn (row : Row) (desk : Desk) (cells : List ℕ) : Type 0 where
  pub plan : Plan
  pub steps : List ℤ
  pub instance : Instance
  pub at : IsDeskAt plan row steps instance desk
  pub wide : (plain_shape plan).cells ≤ length cells

-- the desk stays laid as it was, with as much room
pub record StaysLaid (row : Row) (before after : Desk) : Type 0 where
  pub laid : (steps turns : List ℤ) → IsLaid row steps turns before → IsLaid row steps turns after
  pub room : HasSameRoom before after
