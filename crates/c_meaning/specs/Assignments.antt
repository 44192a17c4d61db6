-- What unsigned values are worth, and what assignments do to arrays (C17), where unsigned int has 32 bits and unsigned
-- long long int 64. Arrays are distinct objects, each as large as its extents say.
use Rattle.std.specs.Prelude.{ℕ, ◌-◌, ◌*◌, ◌/◌, ◌%◌, ◌^◌, nat_lt, Bool, true, false, ◌&&◌, if◌then◌else◌, ℤ, pos, List}
use Rattle.std.specs.Prelude.{[], ◌∷◌, ◌++◌, length, slice_index_or, Option, Some, None}
use Rattle.std.specs.Int.Signed.{le_z, lt_z}
use Rattle.form_text.specs.Reading.{when}
use Rattle.scop_syntax.specs.Cells.{Cell}
use Rattle.scop_syntax.specs.Execution.{held, stored}
use Rattle.scop_syntax.specs.Widths.{bits}
use Rattle.c_printer.specs.Values.{modulus, residue, made}
use Rattle.c_meaning.specs.Syntax.{Place, Value, constant, cell, of_signed, cast, negated, complemented, joined}
use Rattle.c_meaning.specs.Syntax.{moved_left, moved_right, Right, plain, compound, shifted_left, shifted_right}
use Rattle.c_meaning.specs.Syntax.{Assignment}
use Rattle.c_meaning.specs.Expressions.{worth, worths}

-- the arrays of a function: whether the cells of each are of uint32_t, else of uint64_t, and its extents
pub record Arrays : Type 0 where
  pub narrow : List Bool
  pub extents : List (List ℕ)

-- what each cell of each array holds
abbrev pub Contents : Type 0
Contents = List (List ℕ)

-- each subscript lies from 0 up to its extent, and there are as many as extents
abbrev pub are_within : List ℤ → List ℕ → Bool
are_within [] [] = true
are_within [] (n ∷ ns) = false
are_within (z ∷ zs) [] = false
are_within (z ∷ zs) (n ∷ ns) = le_z (pos 0) z && (lt_z z (pos n) && are_within zs ns)

-- the cell is one of its array's
abbrev pub is_cell : Arrays → Cell → Bool
is_cell arrays c =
    nat_lt c.array (length arrays.extents) && are_within c.subscripts (slice_index_or arrays.extents c.array [])

-- the cell of an array at these subscripts
abbrev pub cell_with : ℕ → List ℤ → Cell
cell_with array subscripts = record { array = array; subscripts = subscripts }

-- the cell that a place names at a point (6.5.2.1p2, p3); none where a subscript is undefined
abbrev pub named : List ℤ → Place → Option Cell
named p place = when (worths p place.subscripts) (λ zs. Some (cell_with place.array zs))

-- the same where it is read or assigned to: beside its array there is none (6.5.6p8)
abbrev pub found : Arrays → List ℤ → Place → Option Cell
found arrays p place = when (named p place) (λ c. if is_cell arrays c then Some c else None)

-- the places that a value reads
abbrev pub places_in : Value → List Place
places_in (constant n) = []
places_in (cell place) = place ∷ []
places_in (of_signed small e) = []
places_in (cast small v) = places_in v
places_in (negated v) = places_in v
places_in (complemented v) = places_in v
places_in (joined op v w) = places_in v ++ places_in w
places_in (moved_left v k) = places_in v
places_in (moved_right v k) = places_in v

-- those that stand behind a place
abbrev pub places_behind : Right → List Place
places_behind (plain v) = places_in v
places_behind (compound op v) = places_in v
places_behind (shifted_left k) = []
places_behind (shifted_right k) = []

-- the type of a cell is uint32_t
abbrev pub has_narrow : Arrays → ℕ → Bool
has_narrow arrays n = slice_index_or arrays.narrow n false

-- the type of a value is uint32_t, else uint64_t: a constant is an unsigned long long int (6.4.4.1p5), an operator has the
-- greater type of its sides (6.3.1.8p1), a sign and a shift that of their operand (6.5.3.3p3 and p4, 6.5.7p3). No
-- promotion changes uint32_t, of which int does not hold all numbers (6.3.1.1p2)
abbrev pub is_narrow : Arrays → Value → Bool
is_narrow arrays (constant n) = false
is_narrow arrays (cell place) = has_narrow arrays place.array
is_narrow arrays (of_signed small e) = small
is_narrow arrays (cast small v) = small
is_narrow arrays (negated v) = is_narrow arrays v
is_narrow arrays (complemented v) = is_narrow arrays v
is_narrow arrays (joined op v w) = is_narrow arrays v && is_narrow arrays w
is_narrow arrays (moved_left v k) = is_narrow arrays v
is_narrow arrays (moved_right v k) = is_narrow arrays v

-- a number converted to a type (6.3.1.3p2); none is too large for uint64_t (6.3.1.3p1)
abbrev pub converted : Bool → ℕ → ℕ
converted true a = a % 2 ^ 32
converted false a = a

-- a value's number at a point; none where anything that is evaluated is undefined. Unsigned types count modulo 2^32 or
-- 2^64 (6.2.5p9); a side that is converted to the greater of two types keeps its number (6.3.1.3p1)
abbrev pub number_of : Arrays → Contents → List ℤ → Value → Option ℕ
-- a constant that no type holds has none (6.4.4p2)
number_of arrays contents p (constant n) = if nat_lt n (2 ^ 64) then Some n else None
-- 6.3.2.1p2
number_of arrays contents p (cell place) =
    when (found arrays p place) (λ c. Some (held arrays.extents contents c))
-- 6.3.1.3p2
number_of arrays contents p (of_signed small e) = when (worth p e) (λ z. Some (residue small z))
-- 6.3.1.3p1 and p2
number_of arrays contents p (cast small v) = when (number_of arrays contents p v) (λ a. Some (converted small a))
-- 6.5.3.3p3
number_of arrays contents p (negated v) =
    when (number_of arrays contents p v)
    (λ a. Some ((modulus (is_narrow arrays v) - a) % modulus (is_narrow arrays v)))
-- 6.5.3.3p4
number_of arrays contents p (complemented v) =
    when (number_of arrays contents p v) (λ a. Some (modulus (is_narrow arrays v) - 1 - a))
-- 6.5.5p4, 6.5.6p5 and p6, 6.5.10p4, 6.5.11p4, 6.5.12p4
number_of arrays contents p (joined op v w) =
    when (number_of arrays contents p v) (λ a. when (number_of arrays contents p w)
    (λ b. Some (made (is_narrow arrays v && is_narrow arrays w) op a b)))
-- a count is below the bits of what is shifted (6.5.7p3, p4 and p5)
number_of arrays contents p (moved_left v k) =
    when (number_of arrays contents p v) (λ a. if nat_lt k (bits (is_narrow arrays v))
    then Some ((a * 2 ^ k) % modulus (is_narrow arrays v)) else None)
number_of arrays contents p (moved_right v k) =
    when (number_of arrays contents p v) (λ a. if nat_lt k (bits (is_narrow arrays v))
    then Some (a / 2 ^ k) else None)

-- the number that an assignment leaves in its cell, in that cell's type (6.5.16.1p2): PLACE OP= v is PLACE = PLACE OP v
-- (6.5.16.2p3)
abbrev pub assigned_number : Arrays → Contents → List ℤ → Cell → Right → Option ℕ
assigned_number arrays contents p c (plain v) =
    when (number_of arrays contents p v) (λ a. Some (a % modulus (has_narrow arrays c.array)))
assigned_number arrays contents p c (compound op v) =
    when (number_of arrays contents p v)
    (λ b. Some (made (has_narrow arrays c.array && is_narrow arrays v) op (held arrays.extents contents c) b
    % modulus (has_narrow arrays c.array)))
assigned_number arrays contents p c (shifted_left k) =
    if nat_lt k (bits (has_narrow arrays c.array))
    then Some ((held arrays.extents contents c * 2 ^ k) % modulus (has_narrow arrays c.array)) else None
assigned_number arrays contents p c (shifted_right k) =
    if nat_lt k (bits (has_narrow arrays c.array)) then Some (held arrays.extents contents c / 2 ^ k) else None

-- the contents behind an assignment: it reads and computes, and then its cell holds what it made (6.5.16p3)
abbrev pub assigned : Arrays → List ℤ → Assignment → Contents → Option Contents
assigned arrays p a contents =
    when (found arrays p a.place) (λ c. when (assigned_number arrays contents p c a.right)
    (λ n. Some (stored arrays.extents contents c n)))
