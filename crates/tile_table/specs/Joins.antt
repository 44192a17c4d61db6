-- Codes that join three values read by two operators, and the lanes of rows that have such codes.
use Rattle.std.specs.Prelude.{◌≡◌, ℕ, ℤ, Bool, true, false, List, [], ◌∷◌}
use Rattle.scop_syntax.specs.Values.{applied}
use Rattle.scop_syntax.specs.View.{operator_of}
use Rattle.tile_table.specs.Codes.{result_by}
use Rattle.tile_table.specs.Lanes.{AreLanes}
use Rattle.tile_table.specs.declared.code.Code.{Code}
use Rattle.tile_table.specs.declared.join.Join.{Join}
use Rattle.tile_table.specs.declared.join.JoinLanes.{JoinLanes}
use Rattle.tile_table.specs.declared.table.Row.{Row}

-- what two operators make of three values, the inner one in front or not
abbrev pub joined : Bool → (ℕ → ℕ → ℕ) → (ℕ → ℕ → ℕ) → ℕ → ℕ → ℕ → ℕ
joined true inner outer x y z = outer (inner x y) z
joined false inner outer x y z = outer x (inner y z)

-- what a join makes of them
abbrev pub joined_by : Join → ℕ → ℕ → ℕ → ℕ
joined_by join = joined join.front (applied (operator_of join.inner)) (applied (operator_of join.outer))

-- a code takes three values, and makes of them what a join makes
pub record Joins (code : Code) (join : Join) : Type 0 where
  pub reads : code.reads ≡ 3
  pub value : (leaves : List ℕ) (x y z : ℕ) → result_by code leaves (x ∷ y ∷ z ∷ []) ≡ joined_by join x y z

-- a row's statement stores, its code is a join, and the lanes of its cells stand at these turns and go on by these steps
pub record IsJoinAt (row : Row) (steps turns : List ℤ) (lanes : JoinLanes) : Type 0 where
  pub cells : AreLanes row.cells.items steps turns (lanes.place ∷ lanes.first ∷ lanes.second ∷ lanes.third ∷ [])
  pub stores : row.adds ≡ false
  pub joins : Joins row.code lanes.join
