-- The number of an access's cell at any point: what it would be if rows went on beyond their extents.
use Rattle.std.specs.Prelude.{ℕ, ℤ, pos, ◌+ℤ◌, ◌*ℤ◌, List, [], ◌∷◌, take, slice_index_or}
use Rattle.whole_numbers.specs.Affine.{Affine}
use Rattle.scop_syntax.specs.Tree.{Access}
use Rattle.scop_syntax.specs.Cells.{values}
use Rattle.scop_syntax.specs.Execution.{total_cells}

-- rows one after another, by Horner's rule from the offset so far
abbrev pub row_major : ℤ → List ℕ → List ℤ → ℤ
row_major offset [] subscripts = offset
row_major offset (extent ∷ extents) [] = offset
row_major offset (extent ∷ extents) (subscript ∷ subscripts) =
    row_major (subscript +ℤ (pos extent *ℤ offset)) extents subscripts

-- in an array with these extents, behind so many cells
abbrev pub number_behind : ℕ → List ℕ → List Affine → List ℤ → ℤ
number_behind before extents subscripts point = pos before +ℤ row_major (pos 0) extents (values subscripts point)

-- behind the cells of the arrays before its own
abbrev pub number_at : List (List ℕ) → Access → List ℤ → ℤ
number_at extents access point =
    number_behind (total_cells (take access.array extents)) (slice_index_or extents access.array [])
    access.subscripts point
