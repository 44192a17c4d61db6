-- What data says so far: a sheet with a place for each parameter and each array, in the order of declaration.
use Rattle.std.specs.Prelude.{◌≡◌, ◌<◌, ◌≤◌, ⊤, ℕ, Bool, false, All, IfSome, List, ◌++◌, map, length, replicate}
use Rattle.std.specs.Prelude.{slice_index_or, Option, Some, None}
use Rattle.std.specs.List.{position_from}
use Rattle.std.specs.Str.{bytes_eq}
use Rattle.scop_syntax.specs.Limits.{most_parameter}
use Rattle.scop_syntax.specs.Tree.{Program}
use Rattle.scop_syntax.specs.Kernel.{narrow_arrays}
use Rattle.scop_lexer.specs.Bytes.{Text}
use Rattle.data_lines.specs.declared.sheet.Given.{Given as CodeGiven}
use Rattle.data_lines.specs.declared.sheet.Given.TheVariants.{Nothing, Listed, Seeded}
use Rattle.data_lines.specs.declared.sheet.Sheet.{Sheet as CodeSheet}
use Rattle.data_lines.specs.declared.places.Place.{Place}
use Rattle.data_lines.specs.declared.places.Place.TheVariants.{Nowhere, Parameter, Array}

-- of an array: nothing, its cells as a line lists them, or a seed
pub data Given : Type 0 where
  nothing : Given
  listed : ℕ → List ℕ → Given
  seeded : ℕ → Given

-- a sheet: for each parameter its value, where it is said, and what is said of each array
pub record Sheet : Type 0 where
  pub values : List (Option ℕ)
  pub rows : List Given

-- a sheet on which nothing is said
abbrev pub empty_sheet : Program → Sheet
empty_sheet program =
    record { values = replicate (length program.parameters) None; rows = replicate (length program.arrays) nothing }

-- what the code's value says of an array
abbrev pub given_of : CodeGiven → Given
given_of Nothing = nothing
given_of (Listed line cells) = listed line cells.items
given_of (Seeded seed) = seeded seed

-- the sheet that the code's stands for
abbrev pub sheet_of : CodeSheet → Sheet
sheet_of sheet = record { values = sheet.values.items; rows = map given_of sheet.rows.items }

-- the names of a program's parameters and arrays
abbrev pub names_of : Program → List Text
names_of program = program.parameters ++ map (λ d. d.name) program.arrays

-- where the name stands among these names
abbrev pub found : Text → List Text → Option ℕ
found name names = position_from (λ other. bytes_eq other name) 0 names

-- the place of the array that has been found, if one has
abbrev pub array_place : Option ℕ → Place
array_place (Some j) = Array j
array_place None = Nowhere

-- the place of the parameter that has been found, else the other one
abbrev pub parameter_place : Option ℕ → Place → Place
parameter_place (Some i) other = Parameter i
parameter_place None other = other

-- the place of a name: that of a parameter, or of an array, or none
abbrev pub place_of : Program → Text → Place
place_of program name =
    parameter_place (found name program.parameters) (array_place (found name (map (λ d. d.name) program.arrays)))

-- whether an array has cells of 32 bits
abbrev pub is_narrow : Program → ℕ → Bool
is_narrow program j = slice_index_or (narrow_arrays program) j false

-- one of so many parameters or arrays
abbrev pub IsPlaceOf : ℕ → ℕ → Place → Type 0
IsPlaceOf parameters arrays Nowhere = ⊤
IsPlaceOf parameters arrays (Parameter i) = i < parameters
IsPlaceOf parameters arrays (Array j) = j < arrays

-- the values on a sheet are those that a parameter may have
abbrev pub AreSmall : List (Option ℕ) → Type 0
AreSmall values = All (λ value. IfSome value (λ n. n ≤ most_parameter)) values

-- a sheet of a program has a place for each parameter and each array
pub record IsSheetOf (program : Program) (sheet : Sheet) : Type 0 where
  pub values : length sheet.values ≡ length program.parameters
  pub rows : length sheet.rows ≡ length program.arrays
  pub small : AreSmall sheet.values

-- a sheet has as many places as before, and its values stay small
pub record KeepsShape (old new : Sheet) : Type 0 where
  pub values : length new.values ≡ length old.values
  pub rows : length new.rows ≡ length old.rows
  pub small : AreSmall old.values → AreSmall new.values
