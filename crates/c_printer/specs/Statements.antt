-- The text of a kernel's header and of its statements, which the kernel determines.
use Rattle.std.specs.Prelude.{ℕ, suc, ◌==◌, if◌then◌else◌, Bool, true, false, List, [], ◌∷◌, ◌++◌, map}
use Rattle.std.specs.Prelude.{slice_index_or, codes, decimal}
use Rattle.whole_numbers.specs.Affine.{Affine}
use Rattle.scop_lexer.specs.Bytes.{Text}
use Rattle.scop_syntax.specs.Tree.{Access, Operator, plus, minus, times, bits_and, bits_or, bits_xor, Expression, read}
use Rattle.scop_syntax.specs.Tree.{constant, affine, negated, complemented, cast, binary, shifted_left, shifted_right}
use Rattle.scop_syntax.specs.Tree.{explicit, implied, converted, narrowed, Right, assigned, combined, moved_left}
use Rattle.scop_syntax.specs.Tree.{moved_right, combined_narrow, moved_left_narrow, Statement, Declaration, Program}
use Rattle.form_text.specs.Forms.{form_text}

-- a text between two others
unfoldable pub between : Text → Text → Text → Text
between front middle end = front ++ (middle ++ end)

-- `[FORM]` for each form
abbrev pub subscripts_text : List Text → List Affine → Text
subscripts_text names [] = []
subscripts_text names (form ∷ forms) =
    between (codes "[") (form_text names form) (codes "]") ++ subscripts_text names forms

-- a cell
abbrev pub access_text : Program → List Text → Access → Text
access_text program names access =
    slice_index_or (map (λ (d : Declaration). d.name) program.arrays) access.array []
    ++ subscripts_text names access.subscripts

-- an operator
abbrev pub operator_text : Operator → Text
operator_text plus = codes "+"
operator_text minus = codes "-"
operator_text times = codes "*"
operator_text bits_and = codes "&"
operator_text bits_or = codes "|"
operator_text bits_xor = codes "^"

-- a constant of 64 bits
abbrev pub constant_value_text : ℕ → Text
constant_value_text c = decimal c ++ codes "ULL"

-- a signed part as the number that it is; the text of any other value stays
abbrev pub signed_text : List Text → Expression → Text → Text
signed_text names (constant c) text = between (codes "(") (decimal c) (codes ")")
signed_text names (affine form) text = between (codes "(") (form_text names form) (codes ")")
signed_text names e text = text

-- a value, each operator in parentheses with its operands; what C itself keeps to 32 bits needs no cast
abbrev pub value_text : Program → List Text → Expression → Text
value_text program names (read access) = access_text program names access
value_text program names (constant c) = constant_value_text c
value_text program names (affine form) = between (codes "(uint64_t)(") (form_text names form) (codes ")")
value_text program names (negated e) = between (codes "(-") (value_text program names e) (codes ")")
value_text program names (complemented e) = between (codes "(~") (value_text program names e) (codes ")")
value_text program names (cast e) = codes "(uint64_t)" ++ value_text program names e
value_text program names (binary op e f) =
    codes "(" ++ (value_text program names e ++ (between (codes " ") (operator_text op) (codes " ")
    ++ (value_text program names f ++ codes ")")))
value_text program names (shifted_left e k) =
    codes "(" ++ (value_text program names e ++ between (codes " << ") (constant_value_text k) (codes ")"))
value_text program names (shifted_right e k) =
    codes "(" ++ (value_text program names e ++ between (codes " >> ") (constant_value_text k) (codes ")"))
value_text program names (narrowed explicit e) = codes "(uint32_t)" ++ value_text program names e
value_text program names (narrowed implied e) = value_text program names e
value_text program names (narrowed converted e) =
    codes "(uint32_t)" ++ signed_text names e (value_text program names e)

-- ` ASSIGN VALUE`
abbrev pub right_text : Program → List Text → Right → Text
right_text program names (assigned e) = codes " = " ++ value_text program names e
right_text program names (combined op e) =
    between (codes " ") (operator_text op) (codes "= ") ++ value_text program names e
right_text program names (moved_left k) = codes " <<= " ++ constant_value_text k
right_text program names (moved_right k) = codes " >>= " ++ constant_value_text k
right_text program names (combined_narrow op e) =
    between (codes " ") (operator_text op) (codes "= ") ++ value_text program names e
right_text program names (moved_left_narrow k) = codes " <<= " ++ constant_value_text k

-- `PLACE ASSIGN VALUE` over the parameters and the source iterators round it
unfoldable pub statement_text : Program → List Text → Statement → Text
statement_text program names s = access_text program names s.place ++ right_text program names s.right

-- `, ` in front of all but the first
abbrev pub comma : Bool → Text
comma first = if first then [] else codes ", "

-- texts with `, ` between
abbrev pub listed : Bool → List Text → Text
listed first [] = []
listed first (text ∷ texts) = comma first ++ (text ++ listed false texts)

-- the type of an array's cells, which have 32 bits or 64
abbrev pub cell_type : Bool → Text
cell_type true = codes "uint32_t "
cell_type false = codes "uint64_t "

-- an array as a parameter of the function
abbrev pub array_text : List Text → Declaration → Text
array_text parameters d = between (cell_type d.narrow) d.name (subscripts_text parameters d.extents)

-- the arrays that are declared behind k parameters
abbrev pub arrays_behind : List Text → ℕ → List Declaration → List Text
arrays_behind parameters k [] = []
arrays_behind parameters k (d ∷ ds) =
    if d.parameters_before == k then array_text parameters d ∷ arrays_behind parameters k ds
    else arrays_behind parameters k ds

-- parameters and arrays in the order of their declarations, from the parameter of number k on
abbrev pub declared_from : List Text → List Declaration → ℕ → List Text → List Text
declared_from parameters arrays k [] = arrays_behind parameters k arrays
declared_from parameters arrays k (name ∷ names) =
    arrays_behind parameters k arrays
    ++ ((codes "int64_t " ++ name) ∷ declared_from parameters arrays (suc k) names)

-- what each text begins with: floors, ceilings, the greater and the less of two numbers
unfoldable pub prologue : Text
prologue = codes "#include <stdint.h>\n"
    ++ codes "static int64_t pp_floord(int64_t n, int64_t d) { return n < 0 ? -((-n + d - 1) / d) : n / d; }\n"
    ++ codes "static int64_t pp_ceild(int64_t n, int64_t d) { return n < 0 ? -((-n) / d) : (n + d - 1) / d; }\n"
    ++ codes "static int64_t pp_max(int64_t a, int64_t b) { return a > b ? a : b; }\n"
    ++ codes "static int64_t pp_min(int64_t a, int64_t b) { return a < b ? a : b; }\n"

-- all in front of the nodes: the function's name, its parameters and arrays as the kernel declares them
unfoldable pub front_text : Program → Text
front_text program = prologue ++ (between (codes "void ") program.name (codes "(")
    ++ (listed true (declared_from program.parameters program.arrays 0 program.parameters) ++ codes ") {\n"))
