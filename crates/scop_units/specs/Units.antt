-- What is judged at once: a declared name, an array with its extents, a statement.
use Rattle.std.specs.Prelude.{ℕ, ◌-◌, Bool, true, false, ◌&&◌, not, nat_le, nat_lt, List, [], ◌∷◌, ◌++◌, length, map}
use Rattle.std.specs.Prelude.{slice_get, Option, Some, None}
use Rattle.whole_numbers.specs.Affine.{Affine, form_of}
use Rattle.whole_numbers.specs.Lists.{zeros}
use Rattle.scop_expressions.specs.Assign.{Assign}
use Rattle.scop_expressions.specs.Assign.TheVariants as assigns
use Rattle.scop_expressions.specs.Width.{Width}
use Rattle.scop_syntax.specs.Tree.{Operator, plus, minus, times, bits_and, bits_or, bits_xor, implied, converted, Right}
use Rattle.scop_syntax.specs.Tree.{assigned, combined, combined_narrow, moved_left, moved_left_narrow, moved_right}
use Rattle.scop_syntax.specs.Tree.{Statement, Declaration}
use Rattle.scop_roles.specs.declared.kinds.Kind.{Kind}
use Rattle.scop_roles.specs.declared.kinds.Kind.TheVariants as kind
use Rattle.scop_roles.specs.declared.kinds.Fault.{Fault}
use Rattle.scop_roles.specs.declared.formula.Meaning.{Meaning}
use Rattle.scop_roles.specs.declared.formula.Meaning.TheVariants as meaning
use Rattle.scop_roles.specs.declared.formula.Role.TheVariants as role
use Rattle.scop_roles.specs.Formula.{Formula, place, meaning_of}
use Rattle.scop_roles.specs.Faults.{told, judged, faults, place_faults, own_rank, is_count, last_count, only_where}
use Rattle.scop_roles.specs.Forms.{form, is_signed, is_long, is_narrow_array, is_narrow_width}
use Rattle.scop_roles.specs.Values.{access, expression, narrowed_where, read_places, count}
use Rattle.scop_units.specs.Words.{Words}
use Rattle.scop_units.specs.Scopes.{Scope, entries, is_reserved, redeclared}

-- the kernel's name is in no scope
abbrev pub kernel_name_faults : Words → ℕ → List Fault
kernel_name_faults words at = told at (only_where (is_reserved (words.spelling at)) kind.Redeclared)

-- a name that is declared at a place
abbrev pub name_faults : Words → Scope → ℕ → List Fault
name_faults words s at = told at (redeclared s (words.spelling at))

-- a parameter that is a number, at its name
abbrev pub number_faults : Words → Scope → ℕ → List Fault
number_faults words s at =
    name_faults words s at ++ told at (only_where (nat_le 4 (length s.parameters)) kind.Parameters)

-- extents, each an affine form over n entries
abbrev pub extent_faults : ℕ → List Formula → List Fault
extent_faults n [] = []
extent_faults n (f ∷ fs) = faults n role.Affine f ++ extent_faults n fs

-- an array at its name, which is not in scope in its own extents
abbrev pub array_faults : Words → Scope → ℕ → List Formula → List Fault
array_faults words s at fs =
    name_faults words s at
    ++ (told at (only_where (nat_lt 4 (length fs)) kind.Rank)
    ++ (told at (only_where (nat_le 16 (length s.arrays)) kind.Arrays) ++ extent_faults (entries s) fs))

-- the array with its extents over the parameters before it
abbrev pub array_of : Words → Scope → ℕ → Width → List Formula → Declaration
array_of words s at w fs =
    record {
      name = words.spelling at;
      parameters_before = length s.parameters;
      narrow = is_narrow_width w;
      extents = map (form (entries s)) fs;
    }

-- a form over n entries at least
abbrev pub padded : ℕ → Affine → Affine
padded n f = form_of (f.coefficients ++ zeros (n - length f.coefficients)) f.constant

-- the array with its extents over all n parameters
abbrev pub declared_over : ℕ → Declaration → Declaration
declared_over n d = record d { extents = map (padded n) d.extents }

-- place operator value ;  with the operator's place among the tokens
pub record Stored : Type 0 where
  pub cell : Formula
  pub assign : Assign
  pub assign_at : ℕ
  pub value : Formula

-- a name means an array
abbrev pub is_array : Meaning → Bool
is_array (meaning.Array k r narrow) = true
is_array _ = false

-- only an array has cells: an iterator or a parameter is none, with subscripts or without; of an unknown name
-- UnknownName is told, which stands at the same place and is the lesser kind
abbrev pub own_cell : Formula → Option Kind
own_cell f = only_where (not (is_array (meaning_of f))) kind.IteratorOutside

-- the faults of a place that is stored to: a refused subscript silences its rank, and not what its name is
abbrev pub cell_faults : ℕ → Formula → List Fault
cell_faults n f = told (place f) (own_cell f) ++ judged (place_faults n f) (told (place f) (own_rank f))

-- the place has 32 bits
abbrev pub is_narrow_cell : Formula → Bool
is_narrow_cell f = is_narrow_array (meaning_of f)

-- an operator that assigns to a place, by whether that has 32 bits, with its right side
abbrev pub own_assign : Bool → Assign → Formula → Option Kind
own_assign narrow assigns.Set f = None
own_assign narrow assigns.ShiftLeft f = only_where (not (is_count 0 (last_count narrow) f)) kind.ShiftCount
own_assign narrow assigns.ShiftRight f = only_where (not (is_count 0 (last_count narrow) f)) kind.ShiftCount
own_assign narrow assigns.Divide f = Some kind.Division
own_assign narrow assigns.Remainder f = Some kind.Division
own_assign narrow _ f = only_where (narrow && is_long f) kind.Width

-- a compound operator reads its own place first
abbrev pub own_read : Assign → ℕ → List ℕ
own_read assigns.Set at = []
own_read _ at = at ∷ []

-- the places of the reads in their order
abbrev pub reads_of : Stored → List ℕ
reads_of s = own_read s.assign (place s.cell) ++ read_places s.value

-- the 17th read is one too many
abbrev pub read_limit : Option ℕ → List Fault
read_limit (Some at) = told at (Some kind.Reads)
read_limit None = []

-- the cell, the value, and where both have none the operator
abbrev pub stored_faults : ℕ → Stored → List Fault
stored_faults n s =
    judged (cell_faults n s.cell ++ faults n role.Value s.value)
    (told s.assign_at (own_assign (is_narrow_cell s.cell) s.assign s.value))

-- the faults of a statement over n entries, with so many comparisons round it and so many statements in front
abbrev pub statement_faults : ℕ → ℕ → ℕ → Stored → List Fault
statement_faults n comparisons before s =
    stored_faults n s
    ++ (read_limit (slice_get (reads_of s) 16)
    ++ (told (place s.cell) (only_where (nat_lt 16 comparisons) kind.Depth)
    ++ told (place s.cell) (only_where (nat_le 32 before) kind.Statements)))

-- what a compound operator stores in a place, by whether that has 32 bits: a signed right side is then converted
abbrev pub combined_as : Bool → Operator → ℕ → Formula → Right
combined_as true o n f = combined_narrow o (narrowed_where (is_signed f) converted (expression n f))
combined_as false o n f = combined o (expression n f)

-- what <<= stores there
abbrev pub moved_left_as : Bool → ℕ → Right
moved_left_as true k = moved_left_narrow k
moved_left_as false k = moved_left k

-- what stands on the right of a place, by whether that has 32 bits, the operator and the value
abbrev pub right_of : ℕ → Bool → Assign → Formula → Right
right_of n narrow assigns.Plus f = combined_as narrow plus n f
right_of n narrow assigns.Minus f = combined_as narrow minus n f
right_of n narrow assigns.Times f = combined_as narrow times n f
right_of n narrow assigns.And f = combined_as narrow bits_and n f
right_of n narrow assigns.Or f = combined_as narrow bits_or n f
right_of n narrow assigns.Xor f = combined_as narrow bits_xor n f
right_of n narrow assigns.ShiftLeft f = moved_left_as narrow (count f)
right_of n narrow assigns.ShiftRight f = moved_right (count f)
right_of n narrow _ f = assigned (narrowed_where narrow implied (expression n f))

-- the statement of a program that a faultless one stands for, over n entries
abbrev pub statement_of : ℕ → Stored → Statement
statement_of n s =
    record { place = access n s.cell; right = right_of n (is_narrow_cell s.cell) s.assign s.value }

-- the first fault of a node: that of its parts, else its own
abbrev pub or_fault : Option Fault → Option Fault → Option Fault
or_fault (Some f) own = Some f
or_fault None own = own
