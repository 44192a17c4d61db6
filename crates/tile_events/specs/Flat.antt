-- The cells of all arrays in one row, and the functions of a plan whose places are the visits of a walk.
use Rattle.std.specs.Prelude.{◌≡◌, ℕ, List, [], ◌∷◌, ◌++◌, map, slice_get, Option, Some, None, if◌then◌else◌}
use Rattle.tile_events.specs.Plan.{Plan}
use Rattle.scop_syntax.specs.Cells.{Cell, cell_of, written}
use Rattle.scop_syntax.specs.Reductions.{added_by, is_marked, loads}
use Rattle.scop_syntax.specs.Walk.{Visit}
use Rattle.scop_syntax.specs.Values.{stored_by}
use Rattle.scop_syntax.specs.Execution.{cell_number, held, IsCell}

-- the number of the cell that a visit writes; 0 where there is no visit
abbrev pub written_by : List (List ℕ) → Option Visit → ℕ
written_by extents None = 0
written_by extents (Some v) = cell_number extents (written v)

-- the numbers of the cells that a visit loads; none where there is no visit
abbrev pub read_by : List (List ℕ) → List ℕ → Option Visit → List ℕ
read_by extents marked None = []
read_by extents marked (Some v) =
    map (cell_number extents) (map (λ access. cell_of access v.point) (loads marked v.body))

-- what a visit stores or adds, by the values that it has loaded; 0 where there is no visit
abbrev pub value_by : List ℕ → Option Visit → List ℕ → ℕ
value_by marked None xs = 0
value_by marked (Some v) xs =
    if is_marked marked v.body.place.array then added_by v.body.right v.point xs else stored_by v.body.right v.point xs

-- the contents of all arrays, one behind another
abbrev pub flat : List (List ℕ) → List ℕ
flat [] = []
flat (row ∷ rows) = row ++ flat rows

-- place j of the plan touches and stores or adds what visit j does, over these contents at first
pub record IsWalk (extents contents : List (List ℕ)) (marked : List ℕ) (visits : List Visit) (p : Plan) : Type 0 where
  pub written : (j : ℕ) → p.written j ≡ written_by extents (slice_get visits j)
  pub read : (j : ℕ) → p.read j ≡ read_by extents marked (slice_get visits j)
  pub adds : (c : Cell) → IsCell extents c → p.adds (cell_number extents c) ≡ is_marked marked c.array
  pub value : (j : ℕ) (xs : List ℕ) → p.value j xs ≡ value_by marked (slice_get visits j) xs
  pub initial : (c : Cell) → IsCell extents c → p.initial (cell_number extents c) ≡ held extents contents c
