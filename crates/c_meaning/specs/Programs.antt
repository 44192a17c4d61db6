-- The program that a loop tree's text is: expressions in the order of the text.
use Rattle.std.specs.Prelude.{ℕ, zero, suc, ◌+◌, if◌then◌else◌, true, false, ℤ, pos, negsuc, List, [], ◌∷◌, length, map}
use Rattle.std.specs.Prelude.{◌≤ℤ◌, slice_get, Option, Some, None, All}
use Rattle.whole_numbers.specs.Affine.{Affine, form_of, value_of}
use Rattle.scop_syntax.specs.Execution.{layout}
use Rattle.scop_syntax.specs.Kernel.{narrow_arrays}
use Rattle.scop_syntax.specs.Standings.{Standing, standings_of}
use Rattle.scop_syntax.specs.Tree.{Access, Declaration, Head, Program}
use Rattle.scop_syntax.specs.Tree as scop
use Rattle.loop_tree.specs.Tree.{Bound, Bounds, only, besides, Test, at_least, equal, multiple, Tree, Trees}
use Rattle.loop_tree.specs.Tree as tree
use Rattle.c_printer.specs.Forms.{turned, spread, iterator_form}
use Rattle.c_printer.specs.Nodes.{is_one}
use Rattle.c_meaning.specs.Syntax.{Function, floord, ceild, greater_of, less_of, Relation, equals, Expression, number}
use Rattle.c_meaning.specs.Syntax.{name, opposite, product, sum, difference, call, Comparison, Place, Value, constant}
use Rattle.c_meaning.specs.Syntax.{cell, of_signed, cast, negated, complemented, joined, moved_left, moved_right, Right}
use Rattle.c_meaning.specs.Syntax.{plain, compound, shifted_left, shifted_right, Assignment, Statement, loop, branch}
use Rattle.c_meaning.specs.Syntax.{block, Statements, none, more}
use Rattle.c_meaning.specs.Syntax as c
use Rattle.c_meaning.specs.Assignments.{Arrays}

-- a number with its sign
abbrev pub integer : ℤ → Expression
integer (pos m) = number m
integer (negsuc m) = opposite (number (suc m))

-- m times name k; a factor of 1 is left out
abbrev pub factor : ℕ → ℕ → Expression
factor zero k = product (number zero) (name k)
factor (suc zero) k = name k
factor (suc (suc m)) k = product (number (suc (suc m))) (name k)

-- `-NAME`, `-M*NAME`, where the sign is that of M: -(m + 1) times name k in front of all terms
abbrev pub opposed : ℕ → ℕ → Expression
opposed zero k = opposite (name k)
opposed (suc m) k = product (opposite (number (suc (suc m)))) (name k)

-- a term behind others, which is left out where it is 0
abbrev pub with_term : Expression → ℤ → ℕ → Expression
with_term e (pos zero) k = e
with_term e (pos (suc m)) k = sum e (factor (suc m) k)
with_term e (negsuc m) k = difference e (factor (suc m) k)

-- the constant behind terms, which is left out where it is 0
abbrev pub with_constant : Expression → ℤ → Expression
with_constant e (pos zero) = e
with_constant e (pos (suc m)) = sum e (number (suc m))
with_constant e (negsuc m) = difference e (number (suc m))

-- terms of n names, from name k on, and the constant, behind an expression
abbrev pub behind : Expression → ℕ → ℕ → List ℤ → ℤ → Expression
behind e k n [] z = with_constant e z
behind e k zero (c ∷ cs) z = with_constant e z
behind e k (suc n) (c ∷ cs) z = behind (with_term e c k) (suc k) n cs z

-- terms of n names, from name k on, and the constant, in front of which there is no term
abbrev pub from : ℕ → ℕ → List ℤ → ℤ → Expression
from k n [] z = integer z
from k zero (c ∷ cs) z = integer z
from k (suc n) (pos zero ∷ cs) z = from (suc k) n cs z
from k (suc n) (pos (suc m) ∷ cs) z = behind (factor (suc m) k) (suc k) n cs z
from k (suc n) (negsuc m ∷ cs) z = behind (opposed m k) (suc k) n cs z

-- a form over n names
abbrev pub form_expression : ℕ → Affine → Expression
form_expression n form = from 0 n form.coefficients form.constant

-- a form of the tree over so many parameters and loops
abbrev pub tree_expression : ℕ → ℕ → Affine → Expression
tree_expression parameters loops form =
    form_expression (parameters + loops) (form_of (turned loops form.coefficients) form.constant)

-- a bound, whose divisor of 1 is left out
abbrev pub bound_expression : Function → ℕ → ℕ → Bound → Expression
bound_expression divided parameters loops b = if is_one b.divisor then tree_expression parameters loops b.form
    else call divided (tree_expression parameters loops b.form) (integer b.divisor)

-- bounds of one side
abbrev pub bounds_expression : Function → Function → ℕ → ℕ → Bounds → Expression
bounds_expression divided chosen parameters loops (only b) = bound_expression divided parameters loops b
bounds_expression divided chosen parameters loops (besides b bs) =
    call chosen (bound_expression divided parameters loops b) (bounds_expression divided chosen parameters loops bs)

-- where a loop starts
abbrev pub lower_expression : ℕ → ℕ → Bounds → Expression
lower_expression parameters loops bs = bounds_expression ceild greater_of parameters loops bs

-- where it ends
abbrev pub upper_expression : ℕ → ℕ → Bounds → Expression
upper_expression parameters loops bs = bounds_expression floord less_of parameters loops bs

-- an expression beside 0
abbrev pub to_zero : Relation → Expression → Comparison
to_zero r e = record { relation = r; left = e; right = number 0 }

-- a test
abbrev pub comparison : ℕ → ℕ → Test → Comparison
comparison parameters loops (at_least form) = to_zero c.at_least (tree_expression parameters loops form)
comparison parameters loops (equal form) = to_zero equals (tree_expression parameters loops form)
comparison parameters loops (multiple form d) =
    to_zero equals (difference (tree_expression parameters loops form)
    (product (integer d) (call floord (tree_expression parameters loops form) (integer d))))

-- a guard's statement; one without a test, which no text has, counts as `0 == 0`
abbrev pub guarded : List Comparison → Statements → Statement
guarded [] body = branch (to_zero equals (number 0)) [] body
guarded (c ∷ cs) body = branch c cs body

-- the source iterators at some turns, each over those before it; n names are in scope of the first
abbrev pub given_expressions : ℕ → ℕ → ℕ → List Head → List Affine → List Expression
given_expressions parameters loops n [] turns = []
given_expressions parameters loops n (head ∷ heads) [] = []
given_expressions parameters loops n (head ∷ heads) (turn ∷ turns) =
    form_expression n (iterator_form parameters loops head turn)
    ∷ given_expressions parameters loops (suc n) heads turns

-- a form of the source over n names: the parameters, the loops of the tree, of which it does not speak, and constants
abbrev pub source_expression : ℕ → ℕ → ℕ → Affine → Expression
source_expression parameters loops n form =
    form_expression n (form_of (spread parameters loops form.coefficients) form.constant)

-- a place
abbrev pub place_in : ℕ → ℕ → ℕ → Access → Place
place_in parameters loops n access =
    record { array = access.array; subscripts = map (source_expression parameters loops n) access.subscripts }

-- what is converted to uint32_t beside such a value: a signed part as it is
abbrev pub signed_in : ℕ → ℕ → ℕ → scop.Expression → Value → Value
signed_in parameters loops n (scop.constant k) v = of_signed true (number k)
signed_in parameters loops n (scop.affine form) v = of_signed true (source_expression parameters loops n form)
signed_in parameters loops n e v = cast true v

-- a value; what C keeps to 32 bits by itself has no cast
abbrev pub value_in : ℕ → ℕ → ℕ → scop.Expression → Value
value_in parameters loops n (scop.read access) = cell (place_in parameters loops n access)
value_in parameters loops n (scop.constant k) = constant k
value_in parameters loops n (scop.affine form) = of_signed false (source_expression parameters loops n form)
value_in parameters loops n (scop.negated e) = negated (value_in parameters loops n e)
value_in parameters loops n (scop.complemented e) = complemented (value_in parameters loops n e)
value_in parameters loops n (scop.cast e) = cast false (value_in parameters loops n e)
value_in parameters loops n (scop.binary op e f) =
    joined op (value_in parameters loops n e) (value_in parameters loops n f)
value_in parameters loops n (scop.shifted_left e k) = moved_left (value_in parameters loops n e) k
value_in parameters loops n (scop.shifted_right e k) = moved_right (value_in parameters loops n e) k
value_in parameters loops n (scop.narrowed scop.explicit e) = cast true (value_in parameters loops n e)
value_in parameters loops n (scop.narrowed scop.implied e) = value_in parameters loops n e
value_in parameters loops n (scop.narrowed scop.converted e) =
    signed_in parameters loops n e (value_in parameters loops n e)

-- what stands behind a place
abbrev pub right_in : ℕ → ℕ → ℕ → scop.Right → Right
right_in parameters loops n (scop.assigned e) = plain (value_in parameters loops n e)
right_in parameters loops n (scop.combined op e) = compound op (value_in parameters loops n e)
right_in parameters loops n (scop.moved_left k) = shifted_left k
right_in parameters loops n (scop.moved_right k) = shifted_right k
right_in parameters loops n (scop.combined_narrow op e) = compound op (value_in parameters loops n e)
right_in parameters loops n (scop.moved_left_narrow k) = shifted_left k

-- a statement of the source
abbrev pub assignment_in : ℕ → ℕ → ℕ → scop.Statement → Assignment
assignment_in parameters loops n s =
    record { place = place_in parameters loops n s.place; right = right_in parameters loops n s.right }

-- an instance of a statement of the source
abbrev pub standing_at : ℕ → ℕ → Standing → List Affine → Statement
standing_at parameters loops s turns =
    block (given_expressions parameters loops (parameters + loops) s.heads turns)
    (assignment_in parameters loops (parameters + loops + length s.heads) s.body)

-- an instance, where its number is that of a statement; one of no statement, which no text has, does nothing
abbrev pub instance_at : ℕ → ℕ → Option Standing → List Affine → Statement
instance_at parameters loops None turns = guarded [] none
instance_at parameters loops (Some s) turns = standing_at parameters loops s turns

abbrev mutual
  -- a tree within so many loops
  pub statement_of : Program → ℕ → Tree → Statement
  statement_of program loops (tree.loop flag lo up body) =
      loop flag (lower_expression (length program.parameters) loops lo)
      (upper_expression (length program.parameters) loops up) (statements_of program (suc loops) body)
  statement_of program loops (tree.guard tests body) =
      guarded (map (comparison (length program.parameters) loops) tests) (statements_of program loops body)
  statement_of program loops (tree.instance n turns) =
      instance_at (length program.parameters) loops (slice_get (standings_of program) n) turns

  -- trees, one after another
  pub statements_of : Program → ℕ → Trees → Statements
  statements_of program loops tree.none = none
  statements_of program loops (tree.more t ts) =
      more (statement_of program loops t) (statements_of program loops ts)

-- the program of a kernel's loop tree: what stands in its function's body
abbrev pub c_of : Program → Trees → Statements
c_of program ts = statements_of program 0 ts

-- the arrays of a kernel's function for given parameters
abbrev pub arrays_of : Program → List ℤ → Arrays
arrays_of program params = record { narrow = narrow_arrays program; extents = layout program params }

-- each extent of each array is at least 1
abbrev pub HaveExtents : Program → List ℤ → Type 0
HaveExtents program params =
    All (λ (d : Declaration). All (λ (form : Affine). pos 1 ≤ℤ value_of form params) d.extents) program.arrays
