-- Plans of kernels some arrays of which are only added to: which cells are added to, and what a statement loads there.
use Rattle.std.specs.Prelude.{ℕ, suc, ◌-◌, Bool, ℤ, List, [], ◌∷◌, map, nat_lt, if◌then◌else◌}
use Rattle.scop_syntax.specs.Cells.{cell_of}
use Rattle.scop_syntax.specs.Execution.{cell_count, held}
use Rattle.scop_syntax.specs.Reductions.{is_marked, loads}
use Rattle.scop_syntax.specs.Tree.{Statement}

-- the array among whose cells a number stands
abbrev pub array_of : List (List ℕ) → ℕ → ℕ
array_of [] c = 0
array_of (extents ∷ layouts) c =
    if nat_lt c (cell_count extents) then 0 else suc (array_of layouts (c - cell_count extents))

-- whether the writers of the cell with this number add to it
abbrev pub adds_to : List (List ℕ) → List ℕ → ℕ → Bool
adds_to extents marked c = is_marked marked (array_of extents c)

-- the values that a statement loads
abbrev pub values_loaded_by : List ℕ → List (List ℕ) → List (List ℕ) → Statement → List ℤ → List ℕ
values_loaded_by marked extents contents body point =
    map (λ access. held extents contents (cell_of access point)) (loads marked body)
