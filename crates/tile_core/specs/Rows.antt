-- What a row of a plan's table tells at a walked instance: the cells that it touches, and what it stores or adds.
use Rattle.std.specs.Prelude.{◌≡◌, ◌<◌, ◌≤◌, ℕ, suc, List, length, get_or, slice_get, Some}
use Rattle.whole_numbers.specs.Affine.{Affine, value_of}
use Rattle.scop_syntax.specs.Values.{wrapped}
use Rattle.scop_syntax.specs.Walk.{Instance}
use Rattle.tile_table.specs.Codes.{IsWellMade, value_by}
use Rattle.tile_table.specs.declared.table.Row.{Row}
use Rattle.tile_core.specs.Plans.{places_in, plain_shape}
use Rattle.tile_core.specs.Ranks.{place_in}
use Rattle.tile_core.specs.declared.plan.Plan.{Plan}

-- the number is the value of the access's form
abbrev pub IsFormed : Row → Instance → ℕ → ℕ → Type 0
IsFormed row x access number =
    (form : Affine) → slice_get row.cells.items access ≡ Some form → number ≡ wrapped (value_of form x.turns)

-- at this instance the forms tell the plan's cells, and the code makes the plan's value
pub record IsRowAt (plan : Plan) (row : Row) (x : Instance) : Type 0 where
  pub made : IsWellMade row.code
  pub accesses : length row.cells.items ≡ suc row.code.reads
  pub reads : row.code.reads ≡ length ((plain_shape plan).read (place_in (places_in plan) x))
  pub few : row.code.reads ≤ 16
  pub written : (number : ℕ) → IsFormed row x 0 number
      → number ≡ (plain_shape plan).written (place_in (places_in plan) x)
  pub adds : row.adds ≡ (plain_shape plan).adds ((plain_shape plan).written (place_in (places_in plan) x))
  pub written_inside : (plain_shape plan).written (place_in (places_in plan) x) < (plain_shape plan).cells
  pub read : (r number : ℕ) → r < row.code.reads → IsFormed row x (suc r) number
      → number ≡ get_or ((plain_shape plan).read (place_in (places_in plan) x)) r 0
  pub read_inside : (r : ℕ) → r < row.code.reads
      → get_or ((plain_shape plan).read (place_in (places_in plan) x)) r 0 < (plain_shape plan).cells
  pub value : (values : List ℕ) → length values ≡ row.code.reads
      → value_by row.code x.turns values ≡ (plain_shape plan).value (place_in (places_in plan) x) values
