-- A table of a program's statements, in which their cells and what they store are told by forms of the turns.
use Rattle.std.specs.Prelude.{◌≡◌, ℕ, ℤ, Bool, List, [], ◌∷◌, length, slice_get, Some}
use Rattle.whole_numbers.specs.Affine.{Affine, value_of}
use Rattle.scop_syntax.specs.Execution.{layout}
use Rattle.scop_syntax.specs.Reductions.{is_marked}
use Rattle.scop_syntax.specs.Tree.{Access, Head, Program, Statement}
use Rattle.scop_syntax.specs.Values.{wrapped}
use Rattle.scop_syntax.specs.Standings.{Standing, standings_of}
use Rattle.tile_table.specs.Codes.{Gives, loaded}
use Rattle.tile_table.specs.Numbers.{number_at}
use Rattle.tile_table.specs.Points.{point_in}
use Rattle.tile_table.specs.declared.table.Row.{Row}
use Rattle.tile_table.specs.declared.table.Table.{Table}

-- at all turns of these loops the form's value is the number of the access's cell, modulo 2^64
abbrev pub Tells : List (List ℕ) → List ℤ → List Head → Access → Affine → Type 0
Tells extents params heads access form =
    (turns : List ℤ) → length turns ≡ length heads
    → wrapped (value_of form turns) ≡ wrapped (number_at extents access (point_in heads params turns))

-- what a statement touches: its place, and behind it what it loads
abbrev pub touched : Bool → Statement → List Access
touched adds s = s.place ∷ loaded adds s

-- there is such a form for each access that a statement touches
pub record AreForms (adds : Bool) (extents : List (List ℕ)) (params : List ℤ) (s : Standing)
    (forms : List Affine) : Type 0 where
  pub count : length forms ≡ length (touched adds s.body)
  pub each : (a : ℕ) (access : Access) (form : Affine) → slice_get (touched adds s.body) a ≡ Some access
      → slice_get forms a ≡ Some form → Tells extents params s.heads access form

-- the row of a statement that adds to its place, or of one that stores there: the forms of its accesses, and the code of
-- what it gives its place
pub record IsRow (adds : Bool) (extents : List (List ℕ)) (params : List ℤ) (s : Standing) (row : Row) : Type 0 where
  pub forms : AreForms adds extents params s row.cells.items
  pub adds_so : row.adds ≡ adds
  pub stored : Gives adds params s.heads s.body.right row.code

-- the row of a statement, where it adds to its place if that lies in a marked array
abbrev pub IsRowBy : List ℕ → List (List ℕ) → List ℤ → Standing → Row → Type 0
IsRowBy marked extents params s row = IsRow (is_marked marked s.body.place.array) extents params s row

-- the table has the row of each of a program's statements
pub record IsTableBy (marked : List ℕ) (program : Program) (params : List ℤ) (table : Table) : Type 0 where
  pub count : length table.rows.items ≡ length (standings_of program)
  pub rows : (k : ℕ) (s : Standing) (row : Row) → slice_get (standings_of program) k ≡ Some s
      → slice_get table.rows.items k ≡ Some row → IsRowBy marked (layout program params) params s row

-- where no array is marked
abbrev pub IsTableOf : Program → List ℤ → Table → Type 0
IsTableOf = IsTableBy []
