-- What the instances do to the arrays, one after another.
use Rattle.std.specs.Prelude.{◌≡◌, ℕ, ◌+◌, ◌*◌, ◌<◌, ℤ, pos, negsuc, ◌<ℤ◌, ◌≤ℤ◌, List, [], ◌∷◌, length, map, take, fold}
use Rattle.std.specs.Prelude.{slice_get, slice_set, slice_index_or, Option, Some, None, ⊤}
use Rattle.scop_syntax.specs.Tree.{Access, Statement, Program}
use Rattle.scop_syntax.specs.Members.{In}
use Rattle.scop_syntax.specs.Walk.{Visit, walk_of}
use Rattle.scop_syntax.specs.Cells.{values, accesses, reads, Cell, cell_of}
use Rattle.scop_syntax.specs.Values.{stored_by}

-- an extent or a subscript as a size: 0 where it is negative
abbrev pub size_of : ℤ → ℕ
size_of (pos n) = n
size_of (negsuc n) = 0

-- the extents of each array for given parameters
abbrev pub layout : Program → List ℤ → List (List ℕ)
layout program params = map (λ d. map size_of (values d.extents params)) program.arrays

-- how many cells an array with these extents has
abbrev pub cell_count : List ℕ → ℕ
cell_count [] = 1
cell_count (extent ∷ extents) = extent * cell_count extents

-- how many cells all arrays together have
abbrev pub total_cells : List (List ℕ) → ℕ
total_cells [] = 0
total_cells (extents ∷ layouts) = cell_count extents + total_cells layouts

-- each subscript lies from 0 up to its extent, and there are as many as extents
abbrev pub AreWithin : List ℤ → List ℕ → Type 0
AreWithin [] [] = ⊤
AreWithin [] (extent ∷ extents) = ⊥
AreWithin (subscript ∷ subscripts) [] = ⊥
AreWithin (subscript ∷ subscripts) (extent ∷ extents) =
    (pos 0 ≤ℤ subscript) × (subscript <ℤ pos extent) × AreWithin subscripts extents

-- the cell is one of its array's
pub record IsCell (extents : List (List ℕ)) (cell : Cell) : Type 0 where
  pub array : cell.array < length extents
  pub subscripts : AreWithin cell.subscripts (slice_index_or extents cell.array [])

-- each cell that these visits touch is one of its array's
abbrev pub AreInside : List (List ℕ) → List Visit → Type 0
AreInside extents visits =
    (v : Visit) → In v visits → (access : Access) → In access (accesses v.body)
    → IsCell extents (cell_of access v.point)

-- every subscript of every instance of the program lies in its extent
abbrev pub IsInside : Program → List ℤ → Type 0
IsInside program params = AreInside (layout program params) (walk_of program params)

-- where a cell lies: rows one after another (C17 6.5.2.1p3), by Horner's rule from the offset so far
abbrev pub offset_from : ℕ → List ℕ → List ℤ → ℕ
offset_from offset [] subscripts = offset
offset_from offset (extent ∷ extents) [] = offset
offset_from offset (extent ∷ extents) (subscript ∷ subscripts) =
    offset_from (offset * extent + size_of subscript) extents subscripts

-- where a cell lies among those of its array, from 0
abbrev pub offset_of : List (List ℕ) → Cell → ℕ
offset_of extents cell = offset_from 0 (slice_index_or extents cell.array []) cell.subscripts

-- the number of a cell among those of all arrays: array after array, rows one after another
abbrev pub cell_number : List (List ℕ) → Cell → ℕ
cell_number extents cell = total_cells (take cell.array extents) + offset_of extents cell

-- each array has as many cells as its extents say
abbrev pub IsShaped : List (List ℕ) → List (List ℕ) → Type 0
IsShaped extents contents = map length contents ≡ map cell_count extents

-- what the cell holds
abbrev pub held : List (List ℕ) → List (List ℕ) → Cell → ℕ
held extents contents cell = slice_index_or (slice_index_or contents cell.array []) (offset_of extents cell) 0

-- the contents with another value in the cell
abbrev pub stored : List (List ℕ) → List (List ℕ) → Cell → ℕ → List (List ℕ)
stored extents contents cell value =
    slice_set contents cell.array (slice_set (slice_index_or contents cell.array []) (offset_of extents cell) value)

-- the values that a statement reads at a point
abbrev pub values_read_by : List (List ℕ) → List (List ℕ) → Statement → List ℤ → List ℕ
values_read_by extents contents body point = map (λ access. held extents contents (cell_of access point)) (reads body)

-- the value that a statement stores at a point
abbrev pub value_stored_by : List (List ℕ) → List (List ℕ) → Statement → List ℤ → ℕ
value_stored_by extents contents body point = stored_by body.right point (values_read_by extents contents body point)

-- a statement at a point: it reads all its cells, computes, and stores (C17 6.5.16p3)
abbrev pub performed_by : List (List ℕ) → List (List ℕ) → Statement → List ℤ → List (List ℕ)
performed_by extents contents body point =
    stored extents contents (cell_of body.place point) (value_stored_by extents contents body point)

-- the contents after a visit
abbrev pub performed : List (List ℕ) → List (List ℕ) → Visit → List (List ℕ)
performed extents contents v = performed_by extents contents v.body v.point

-- the contents after these visits, one after another
abbrev pub performed_all : List (List ℕ) → List (List ℕ) → List Visit → List (List ℕ)
performed_all extents contents visits = fold (performed extents) contents visits

-- the contents before place j of these visits
abbrev pub before_place : List (List ℕ) → List (List ℕ) → List Visit → ℕ → List (List ℕ)
before_place extents contents visits j = performed_all extents contents (take j visits)

-- the contents after the program has run
abbrev pub exec : Program → List ℤ → List (List ℕ) → List (List ℕ)
exec program params contents = performed_all (layout program params) contents (walk_of program params)

-- the values that a visit reads; none where there is no visit
abbrev pub values_read : List (List ℕ) → List (List ℕ) → Option Visit → List ℕ
values_read extents contents None = []
values_read extents contents (Some v) = values_read_by extents contents v.body v.point

-- the value that a visit stores; 0 where there is no visit
abbrev pub value_stored : List (List ℕ) → List (List ℕ) → Option Visit → ℕ
value_stored extents contents None = 0
value_stored extents contents (Some v) = value_stored_by extents contents v.body v.point

-- the values read at place j of the visits
abbrev pub values_read_at : List (List ℕ) → List (List ℕ) → List Visit → ℕ → List ℕ
values_read_at extents contents visits j =
    values_read extents (before_place extents contents visits j) (slice_get visits j)

-- the value stored at place j of the visits
abbrev pub value_stored_at : List (List ℕ) → List (List ℕ) → List Visit → ℕ → ℕ
value_stored_at extents contents visits j =
    value_stored extents (before_place extents contents visits j) (slice_get visits j)
