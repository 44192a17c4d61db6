-- The text of a loop tree: each loop, guard and closing brace on a line of its own, an instance on one line.
use Rattle.std.specs.Prelude.{ℕ, zero, suc, Bool, true, false, if◌then◌else◌, ℤ, pos, List, [], ◌∷◌, ◌++◌, length}
use Rattle.std.specs.Prelude.{slice_get, Option, Some, None, codes, decimal}
use Rattle.std.specs.Fmt.{signed_decimal}
use Rattle.whole_numbers.specs.Affine.{Affine}
use Rattle.scop_lexer.specs.Bytes.{Text}
use Rattle.scop_syntax.specs.Tree.{Head, Program}
use Rattle.loop_tree.specs.Tree.{Bound, Bounds, only, besides, Test, at_least, equal, multiple, Tree, loop, guard}
use Rattle.loop_tree.specs.Tree.{instance, Trees, none, more}
use Rattle.form_text.specs.Forms.{form_text}
use Rattle.c_printer.specs.Forms.{loop_name, names_in, tree_form_text, iterator_form}
use Rattle.scop_syntax.specs.Standings.{Standing, standings_of}
use Rattle.c_printer.specs.Naming.{iterators_of}
use Rattle.c_printer.specs.Statements.{between, statement_text, front_text}

-- whether a number is 1
abbrev pub is_one : ℤ → Bool
is_one (pos (suc zero)) = true
is_one z = false

-- a text so many times
abbrev pub repeated : Text → ℕ → Text
repeated text zero = []
repeated text (suc n) = text ++ repeated text n

-- two blanks a level
abbrev pub indent : ℕ → Text
indent level = repeated (codes "  ") level

-- `, D)`
abbrev pub divisor_text : ℤ → Text
divisor_text d = between (codes ", ") (signed_decimal d) (codes ")")

-- a bound, whose divisor of 1 is left out; `divided` is the name of the division with its parenthesis
abbrev pub bound_text : Text → List Text → ℕ → Bound → Text
bound_text divided names loops b = if is_one b.divisor then tree_form_text names loops b.form
    else between divided (tree_form_text names loops b.form) (divisor_text b.divisor)

-- bounds of one side; `chosen` is the name of the choice among two with its parenthesis
abbrev pub bounds_text : Text → Text → List Text → ℕ → Bounds → Text
bounds_text divided chosen names loops (only b) = bound_text divided names loops b
bounds_text divided chosen names loops (besides b bs) =
    between chosen (bound_text divided names loops b) (codes ", ")
    ++ (bounds_text divided chosen names loops bs ++ codes ")")

-- where a loop starts
unfoldable pub lower_text : List Text → ℕ → Bounds → Text
lower_text names loops bs = bounds_text (codes "pp_ceild(") (codes "pp_max(") names loops bs

-- where it ends
unfoldable pub upper_text : List Text → ℕ → Bounds → Text
upper_text names loops bs = bounds_text (codes "pp_floord(") (codes "pp_min(") names loops bs

-- a test
abbrev pub test_text : List Text → ℕ → Test → Text
test_text names loops (at_least form) = tree_form_text names loops form ++ codes " >= 0"
test_text names loops (equal form) = tree_form_text names loops form ++ codes " == 0"
test_text names loops (multiple form d) =
    tree_form_text names loops form ++ (between (codes " - ") (signed_decimal d) (codes "*pp_floord(")
    ++ (tree_form_text names loops form ++ (divisor_text d ++ codes " == 0")))

-- ` && ` in front of all but the first
abbrev pub conjunction : Bool → Text
conjunction first = if first then [] else codes " && "

-- tests, the first of a guard or those behind it
abbrev pub tests_text : Bool → List Text → ℕ → List Test → Text
tests_text first names loops [] = []
tests_text first names loops (test ∷ tests) =
    conjunction first ++ (test_text names loops test ++ tests_text false names loops tests)

-- the source iterators at some turns, each over those before it; names are those of the first one's form
abbrev pub givens_text : ℕ → ℕ → List Text → List Head → List Affine → Text
givens_text parameters loops names [] turns = []
givens_text parameters loops names (head ∷ heads) [] = []
givens_text parameters loops names (head ∷ heads) (turn ∷ turns) =
    between (codes "const int64_t ") head.iterator (codes " = ")
    ++ (form_text names (iterator_form parameters loops head turn) ++ codes "; ")
    ++ givens_text parameters loops (names ++ (head.iterator ∷ [])) heads turns

-- a statement at the turns of the loops round it, if there is one; names are those of the loop tree there
abbrev pub body_text : Program → List Text → ℕ → Option Standing → List Affine → Text
body_text program names loops None turns = []
body_text program names loops (Some s) turns =
    givens_text (length program.parameters) loops names s.heads turns
    ++ statement_text program (program.parameters ++ iterators_of s.heads) s.body

-- an instance of the statement of number n, counted from 0; texts count from 1
abbrev pub instance_text : Program → List Text → ℕ → ℕ → List Affine → Text
instance_text program names loops n turns =
    between (codes "{ /* S") (decimal (suc n)) (codes " */ ")
    ++ (body_text program names loops (slice_get (standings_of program) n) turns ++ codes "; }\n")

-- the line of a loop behind its indentation, with this many loops round it
abbrev pub head_text : Text → List Text → ℕ → Bounds → Bounds → Text
head_text name names loops lo up =
    between (codes "for (int64_t ") name (codes " = ") ++ (lower_text names loops lo
    ++ (between (codes "; ") name (codes " <= ") ++ (upper_text names loops up
    ++ between (codes "; ") name (codes "++) {\n"))))

-- the line in front of a parallel loop, and that loop's indentation
unfoldable pub pragma_text : ℕ → Text
pragma_text level = codes "#pragma omp parallel for\n" ++ indent level

-- a closing brace on its line
unfoldable pub closing_text : ℕ → Text
closing_text level = indent level ++ codes "}\n"

abbrev mutual
  -- a node behind its indentation: the level, and how many loops are round it
  pub node_text : Program → ℕ → ℕ → Tree → Text
  node_text program level loops (loop flag lo up body) =
      (if flag then pragma_text level else [])
      ++ (head_text (loop_name loops) (names_in program.parameters loops) loops lo up
      ++ (nodes_text program (suc level) (suc loops) body ++ closing_text level))
  node_text program level loops (guard tests body) =
      between (codes "if (") (tests_text true (names_in program.parameters loops) loops tests) (codes ") {\n")
      ++ (nodes_text program (suc level) loops body ++ closing_text level)
  node_text program level loops (instance n turns) =
      instance_text program (names_in program.parameters loops) loops n turns

  -- nodes, one after another
  pub nodes_text : Program → ℕ → ℕ → Trees → Text
  nodes_text program level loops none = []
  nodes_text program level loops (more t ts) =
      indent level ++ (node_text program level loops t ++ nodes_text program level loops ts)

-- the text of a kernel's loop tree
abbrev pub text_of : Program → Trees → Text
text_of program ts = front_text program ++ (nodes_text program 1 0 ts ++ codes "}\n")
