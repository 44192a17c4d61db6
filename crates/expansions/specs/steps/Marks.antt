-- Marks of cells: 0, or one more than the place that wrote the cell last.
use Rattle.std.specs.Prelude.{◌≡◌, ◌<◌, ◌*◌, ◌+◌, ℕ, zero, suc, ℤ, List, [], ◌∷◌, ◌++◌, length, get_or, slice_get}
use Rattle.std.specs.Prelude.{Option, Some, None, nat_eq, if◌then◌else◌}
use Rattle.whole_numbers.specs.Affine.{Affine, value_of}
use Rattle.scop_syntax.specs.Cells.{Cell}
use Rattle.scop_syntax.specs.Execution.{IsCell, cell_number}
use Rattle.scop_syntax.specs.Values.{wrapped}
use Rattle.scop_syntax.specs.Walk.{Visit}
use Rattle.scop_syntax.specs.Writers.{last_of, last_writer}
use Rattle.tile_table.specs.declared.table.Row.{Row}
use Rattle.expansions.specs.Expansions.{number_of}
use Rattle.expansions.specs.declared.sourcing.Pass.{Pass}

-- what a function gives for the numbers below n
abbrev pub firsts : {A : Type 0} → (ℕ → A) → ℕ → List A
firsts f zero = []
firsts f (suc n) = firsts f n ++ f n ∷ []

-- the mark of the cell at which a form points at these turns, 0 where there is no form
abbrev pub mark_of : List ℕ → List ℤ → Option Affine → ℕ
mark_of marks turns None = 0
mark_of marks turns (Some form) = get_or marks (wrapped (value_of form turns)) 0

-- the marks of what a row reads at these turns
abbrev pub read_marks : List ℕ → Row → List ℤ → ℕ → ℕ
read_marks marks row turns r = mark_of marks turns (slice_get row.cells.items (suc r))

-- a cell is marked by the place, the others keep their marks
abbrev pub IsMarked : ℕ → ℕ → List ℕ → List ℕ → Type 0
IsMarked cell place before after =
    (c : ℕ) → get_or after c 0 ≡ (if nat_eq cell c then suc place else get_or before c 0)

-- a place of this row at these turns was passed, of which so many numbers are kept
pub record HasPassed (row : Row) (turns : List ℤ) (most : ℕ) (before after : Pass) : Type 0 where
  pub place : after.place ≡ suc before.place
  pub numbers : after.numbers.items ≡ before.numbers.items ++ firsts (read_marks before.marks.items row turns) most
  pub marks : (form : Affine) → slice_get row.cells.items 0 ≡ Some form
      → IsMarked (wrapped (value_of form turns)) before.place before.marks.items after.marks.items

-- the marks and numbers of the first n places
pub record AreKept (extents : List (List ℕ)) (visits : List Visit) (most n : ℕ) (marks numbers : List ℕ) : Type 0 where
  pub marks_are : (c : Cell) → IsCell extents c
      → get_or marks (cell_number extents c) 0 ≡ number_of (last_writer visits n c)
  pub count : length numbers ≡ n * most
  pub sources : (j r : ℕ) → j < n → r < most
      → slice_get numbers (j * most + r) ≡ Some (number_of (last_of visits j (suc r)))
