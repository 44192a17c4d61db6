-- What data says of a kernel, in its own words: what the lines say of each parameter and each array, or which rule they
-- break first. Here no sheet is filled.
use Rattle.std.specs.Prelude.{◌≡◌, ◌≢◌, ◌⊎◌, ℕ, ◌+◌, ◌^◌, ◌<◌, ◌≤◌, ℤ, pos, ◌≤ℤ◌, List, [], length, All, Some}
use Rattle.std.specs.Prelude.{slice_get, slice_index, slice_index_or}
use Rattle.whole_numbers.specs.Affine.{Affine, value_of}
use Rattle.scop_lexer.specs.Bytes.{Text}
use Rattle.scop_syntax.specs.Tree.{Declaration, Program}
use Rattle.scop_syntax.specs.Execution.{layout, cell_count, total_cells}
use Rattle.data_lines.specs.declared.refusal.DataRefusal.{DataRefusal}
use Rattle.data_lines.specs.declared.refusal.DataRefusal.TheVariants.{Missing, Extent, Cells, Count}
use Rattle.data_lines.specs.Naming.{AreInOrder, AreLines, IsLeftOut, IsMissing, ListsCells, SaysCells, SaysSeed}
use Rattle.data_lines.specs.Naming.{SaysValue}
use Rattle.data_lines.specs.Naming.{IsFirstBroken as IsFirstBrokenLine}
use Rattle.data_lines.specs.Sheets.{is_narrow}
use Rattle.data_text.specs.Cases.{seeded_cell}

-- each parameter has the value that a line says
pub record AreGiven (program : Program) (lines : ℕ → Text) (params : List ℤ) : Type 0 where
  pub count : length params ≡ length program.parameters
  pub each : (i : ℕ) → i < length params
      → (value : ℕ) × SaysValue program i value lines × (slice_index_or params i (pos 0) ≡ pos value)

-- so many cells, the k-th of which, from 0, is this
pub record AreCells (count : ℕ) (cell : ℕ → ℕ) (cells : List ℕ) : Type 0 where
  pub count_is : length cells ≡ count
  pub each : (k : ℕ) → k < count → slice_index cells k ≡ cell k

-- the cells of an array: zeros where no line names it; or as many numbers as it has cells, which a line lists; or by
-- the seed that a line says
abbrev pub AreHeld : Program → (ℕ → Text) → ℕ → ℕ → List ℕ → Type 0
AreHeld program lines j count cells = (IsLeftOut program j lines × AreCells count (λ k. 0) cells)
    ⊎ ((SaysCells program j cells lines × (length cells ≡ count))
    ⊎ ((seed : ℕ) × SaysSeed program j seed lines × AreCells count (seeded_cell (is_narrow program j) seed) cells))

-- how many cells an array has
abbrev pub cells_in : Program → List ℤ → ℕ → ℕ
cells_in program params j = cell_count (slice_index_or (layout program params) j [])

-- each array has the cells that the lines say
pub record AreContents (program : Program) (lines : ℕ → Text) (params : List ℤ) (contents : List (List ℕ)) : Type 0
  where
    pub count : length contents ≡ length program.arrays
    pub each : (j : ℕ) → j < length contents
        → AreHeld program lines j (cells_in program params j) (slice_index_or contents j [])

-- lines describe a case of a program: each parameter, each array, positive extents, and at most 2^22 cells in all
pub record Describes (program : Program) (lines : ℕ → Text) (params : List ℤ) (contents : List (List ℕ)) : Type 0
  where
    pub lines_are : AreLines program lines
    pub params_are : AreGiven program lines params
    pub contents_are : AreContents program lines params contents
    pub extents : All (λ d. All (λ form. pos 1 ≤ℤ value_of form params) d.extents) program.arrays
    pub cells : total_cells (layout program params) ≤ 2 ^ 22

-- no line names this parameter, the first of which that holds
pub record IsFirstMissing (program : Program) (lines : ℕ → Text) (i : ℕ) : Type 0 where
  pub within : i < length program.parameters
  pub missing : IsMissing program i lines
  pub before : (k : ℕ) → k < i → (value : ℕ) × SaysValue program k value lines

-- an extent, by its array and its dimension from 1, has a value that is not positive
pub record IsLow (params : List ℤ) (arrays : List Declaration) (j dimension : ℕ) (value : ℤ) : Type 0 where
  pub array : Declaration
  pub form : Affine
  pub before : ℕ
  pub is_array : slice_get arrays j ≡ Some array
  pub is_extent : slice_get array.extents before ≡ Some form
  pub number : dimension ≡ before + 1
  pub value_is : value_of form params ≡ value
  pub low : value ≤ℤ pos 0

-- it is the first: each extent of an earlier array, and each lesser one of its own, is positive
pub record IsFirstLow (params : List ℤ) (arrays : List Declaration) (j dimension : ℕ) (value : ℤ) : Type 0 where
  pub is_low : IsLow params arrays j dimension value
  pub earlier : (i : ℕ) (d : Declaration) → i < j → slice_get arrays i ≡ Some d
      → All (λ form. pos 1 ≤ℤ value_of form params) d.extents
  pub lesser : (k : ℕ) (form : Affine) → k + 1 < dimension → slice_get is_low.array.extents k ≡ Some form
      → pos 1 ≤ℤ value_of form params

-- a line lists another number of cells than its array has
pub record IsMiscounted (program : Program) (line : Text) (params : List ℤ) (expected found : ℕ) : Type 0 where
  pub array : ℕ
  pub cells : List ℕ
  pub within : array < length program.arrays
  pub lists : ListsCells program array cells line
  pub expected_is : cells_in program params array ≡ expected
  pub found_is : length cells ≡ found
  pub differ : expected ≢ found

-- it is the first such line
pub record IsFirstMiscounted (program : Program) (lines : ℕ → Text) (params : List ℤ) (n expected found : ℕ) : Type 0
  where
    pub is_miscounted : IsMiscounted program (lines n) params expected found
    pub before : (m other count : ℕ) → m < n → IsMiscounted program (lines m) params other count → ⊥

-- no line breaks a rule, and each parameter has the value that a line says
pub record AreComplete (program : Program) (lines : ℕ → Text) (params : List ℤ) : Type 0 where
  pub order : AreInOrder program lines
  pub given : AreGiven program lines params

-- every extent is positive
abbrev pub AreExtents : Program → List ℤ → Type 0
AreExtents program params = All (λ d. All (λ form. pos 1 ≤ℤ value_of form params) d.extents) program.arrays

-- what a refusal says of the lines: they break this rule, and none that comes before it
abbrev pub IsFirstBroken : Program → (ℕ → Text) → DataRefusal → Type 0
IsFirstBroken program lines (Missing i) = AreInOrder program lines × IsFirstMissing program lines i
IsFirstBroken program lines (Extent j dimension value) =
    (params : List ℤ) × AreComplete program lines params × IsFirstLow params program.arrays j dimension value
IsFirstBroken program lines (Cells total) = (params : List ℤ) × AreComplete program lines params
    × AreExtents program params × (total_cells (layout program params) ≡ total) × (2 ^ 22 < total)
IsFirstBroken program lines (Count n expected found) = (params : List ℤ) × AreComplete program lines params
    × AreExtents program params × (total_cells (layout program params) ≤ 2 ^ 22)
    × IsFirstMiscounted program lines params n expected found
IsFirstBroken program lines other = IsFirstBrokenLine program lines other
