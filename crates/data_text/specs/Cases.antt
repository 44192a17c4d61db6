-- The case that data says of a program: the values of its parameters, and the contents of its arrays; or the first
-- rule that the data breaks.
use Rattle.std.specs.Prelude.{◌≡◌, ℕ, ◌+◌, ◌*◌, ◌%◌, ◌^◌, ◌==◌, nat_lt, int_le, Bool, true, false, if◌then◌else◌, ℤ}
use Rattle.std.specs.Prelude.{pos, List, [], ◌∷◌, drop, length, map, replicate, slice_index_or, Option, Some, None}
use Rattle.std.specs.Prelude.{Result, Ok, Err, ⊤}
use Rattle.std.specs.List.{range_with_len}
use Rattle.scop_lexer.specs.Bytes.{Text}
use Rattle.scop_syntax.specs.Tree.{Declaration, Program}
use Rattle.scop_syntax.specs.Cells.{values}
use Rattle.scop_syntax.specs.Execution.{layout, cell_count, total_cells}
use Rattle.scop_syntax.specs.Kernel.{narrow_arrays}
use Rattle.data_lines.specs.Sheets.{Given, nothing, listed, seeded, Sheet}
use Rattle.data_lines.specs.Entries.{sheet_said}
use Rattle.data_lines.specs.declared.refusal.DataRefusal.{DataRefusal}
use Rattle.data_lines.specs.declared.refusal.DataRefusal.TheVariants.{Missing, Extent, Cells, Count}
use Rattle.data_lines.specs.declared.refusal.DataStop.{DataStop}
use Rattle.data_lines.specs.declared.refusal.DataStop.TheVariants.{Refused, NoMemory}
use Rattle.data_text.specs.declared.counts.Miscount.{Miscount}

-- what data says: a value for each parameter, and the cells of each array, row by row
pub record Said : Type 0 where
  pub params : List ℤ
  pub contents : List (List ℕ)

-- the parameter without a line: the first from the i-th on
abbrev pub missing : ℕ → List (Option ℕ) → Option DataRefusal
missing i [] = None
missing i (Some value ∷ values) = missing (i + 1) values
missing i (None ∷ values) = Some (Missing i)

-- the value of a parameter as a whole number; 0 where it has none
abbrev pub param_of : Option ℕ → ℤ
param_of (Some value) = pos value
param_of None = pos 0

-- the values of the parameters
abbrev pub params_of : List (Option ℕ) → List ℤ
params_of values = map param_of values

-- the extent that is at most 0: the first of an array's from dimension k on
abbrev pub bad_dimension : ℕ → ℕ → List ℤ → Option DataRefusal
bad_dimension array k [] = None
bad_dimension array k (value ∷ values) =
    if int_le value (pos 0) then Some (Extent array k value) else bad_dimension array (k + 1) values

-- of two rules the one that is broken first
abbrev pub or_else : Option DataRefusal → Option DataRefusal → Option DataRefusal
or_else (Some refusal) other = Some refusal
or_else None other = other

-- the first array with such an extent, from the j-th on
abbrev pub bad_extent : List ℤ → ℕ → List Declaration → Option DataRefusal
bad_extent params j [] = None
bad_extent params j (d ∷ ds) = or_else (bad_dimension j 1 (values d.extents params)) (bad_extent params (j + 1) ds)

-- too many cells
abbrev pub too_many : ℕ → Option DataRefusal
too_many total = if nat_lt (2 ^ 22) total then Some (Cells total) else None

-- a list that is not as long as its array, which has so many cells
abbrev pub miscount_of : ℕ → Given → Option Miscount
miscount_of expected nothing = None
miscount_of expected (listed line cells) = if length cells == expected then None
    else Some (record { line = line; expected = expected; found = length cells })
miscount_of expected (seeded seed) = None

-- of two lists the one on the earlier line
abbrev pub earlier : Option Miscount → Option Miscount → Option Miscount
earlier None other = other
earlier (Some best) None = Some best
earlier (Some best) (Some other) = if nat_lt other.line best.line then Some other else Some best

-- the earliest of a list and those of the arrays
abbrev pub first_miscount : Option Miscount → List (List ℕ) → List Given → Option Miscount
first_miscount best [] rows = best
first_miscount best (extents ∷ layouts) [] = best
first_miscount best (extents ∷ layouts) (given ∷ rows) =
    first_miscount (earlier best (miscount_of (cell_count extents) given)) layouts rows

-- a list that is not as long as its array is told, if there is one
abbrev pub miscounted : Option Miscount → Option DataRefusal
miscounted None = None
miscounted (Some m) = Some (Count m.line m.expected m.found)

-- the k-th cell by a seed, modulo 2^64 (Knuth, The Art of Computer Programming 3, 6.4: Fibonacci hashing)
abbrev pub seed_cell : ℕ → ℕ → ℕ
seed_cell seed k = (seed + k + 1) * 11400714819323198485 % 2 ^ 64

-- that of a narrow array, modulo 2^32, or of another
abbrev pub seeded_cell : Bool → ℕ → ℕ → ℕ
seeded_cell true seed k = seed_cell seed k % 2 ^ 32
seeded_cell false seed k = seed_cell seed k

-- the cells of an array, narrow or not, that has so many: zeros, the list, or by the seed
abbrev pub cells_said : Bool → ℕ → Given → List ℕ
cells_said narrow count nothing = replicate count 0
cells_said narrow count (listed line cells) = cells
cells_said narrow count (seeded seed) = map (seeded_cell narrow seed) (range_with_len 0 count)

-- the cells of each array, in declared order, by which are narrow
abbrev pub contents_said : List Bool → List (List ℕ) → List Given → List (List ℕ)
contents_said narrow [] rows = []
contents_said narrow (extents ∷ layouts) [] = []
contents_said narrow (extents ∷ layouts) (given ∷ rows) =
    cells_said (slice_index_or narrow 0 false) (cell_count extents) given ∷ contents_said (drop 1 narrow) layouts rows

-- a rule that is broken is told
abbrev pub told_or : Option DataRefusal → Result Said DataRefusal → Result Said DataRefusal
told_or (Some refusal) otherwise = Err refusal
told_or None otherwise = otherwise

-- the case by the lists of arrays with this layout
abbrev pub filled : List Bool → List ℤ → List (List ℕ) → List Given → Result Said DataRefusal
filled narrow params layouts rows = told_or (miscounted (first_miscount None layouts rows))
    (Ok (record { params = params; contents = contents_said narrow layouts rows }))

-- an extent that is no extent, or too many cells
abbrev pub bad_layout : Program → List ℤ → Option DataRefusal
bad_layout program params =
    or_else (bad_extent params 0 program.arrays) (too_many (total_cells (layout program params)))

-- the case with these values of the parameters
abbrev pub laid_out : Program → List ℤ → List Given → Result Said DataRefusal
laid_out program params rows =
    told_or (bad_layout program params) (filled (narrow_arrays program) params (layout program params) rows)

-- the case of a sheet: each parameter has a line, then each extent is positive, then there are at most 2^22 cells,
-- then each list is as long as its array
abbrev pub case_said : Program → Sheet → Result Said DataRefusal
case_said program sheet =
    told_or (missing 0 sheet.values) (laid_out program (params_of sheet.values) sheet.rows)

-- the case of a sheet that the lines fill, or the rule that they break
abbrev pub case_of_lines : Program → Result Sheet DataRefusal → Result Said DataRefusal
case_of_lines program (Ok sheet) = case_said program sheet
case_of_lines program (Err refusal) = Err refusal

-- what a text says of a program
abbrev pub data_said : Program → Text → Result Said DataRefusal
data_said program text = case_of_lines program (sheet_said program text)

-- the answer of these values and these contents
abbrev pub ok_said : List ℤ → List (List ℕ) → Result Said DataRefusal
ok_said params contents = Ok (record { params = params; contents = contents })

-- the text says these values of the program's parameters and these contents of its arrays
abbrev pub Says : Text → Program → List ℤ → List (List ℕ) → Type 0
Says text program params contents = data_said program text ≡ ok_said params contents

-- a call that stopped did so for the refusal by this rule; of memory nothing is said
abbrev pub StopsBy : Option DataRefusal → DataStop → Type 0
StopsBy rule (Refused refusal) = rule ≡ Some refusal
StopsBy rule NoMemory = ⊤
