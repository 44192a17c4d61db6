-- The plain data that the code's values stand for.
use Rattle.std.specs.Prelude.{List, [], ◌∷◌, map, take}
use Rattle.scop_syntax.specs.Tree.{Operator, plus, minus, times, bits_and, bits_or, bits_xor, Expression, read}
use Rattle.scop_syntax.specs.Tree.{constant, affine, negated, complemented, cast, binary, shifted_left, shifted_right}
use Rattle.scop_syntax.specs.Tree.{Narrowing, explicit, implied, converted, narrowed, Right, assigned, combined}
use Rattle.scop_syntax.specs.Tree.{moved_left, moved_right, combined_narrow, moved_left_narrow, Statement, Test}
use Rattle.scop_syntax.specs.Tree.{at_least, equal}
use Rattle.scop_syntax.specs.Tree.{Tree, loop, guard, statement, Trees, none, more, Program}
use Rattle.scop_syntax.specs.Walk.{Instance}
use Rattle.scop_syntax.specs.declared.instance.Instance.{Instance as CodeInstance}
use Rattle.scop_syntax.specs.declared.tree.Operator.{Operator as CodeOperator}
use Rattle.scop_syntax.specs.declared.tree.Operator.TheVariants.{Plus, Minus, Times, And, Or, Xor}
use Rattle.scop_syntax.specs.declared.tree.Narrowing.{Narrowing as CodeNarrowing}
use Rattle.scop_syntax.specs.declared.tree.Narrowing.TheVariants.{Explicit, Implied, Converted}
use Rattle.scop_syntax.specs.declared.tree.Expr.{Expr}
use Rattle.scop_syntax.specs.declared.tree.Expr.TheFolds.{fold-Expr}
use Rattle.scop_syntax.specs.declared.tree.Expr.TheOpen.{Expr-F}
use Rattle.scop_syntax.specs.declared.tree.Right.{Right as CodeRight}
use Rattle.scop_syntax.specs.declared.tree.Right.TheVariants.{Assigned, Combined, ShiftedLeft, ShiftedRight}
use Rattle.scop_syntax.specs.declared.tree.Right.TheVariants.{CombinedNarrow, ShiftedLeftNarrow}
use Rattle.scop_syntax.specs.declared.tree.Stmt.{Stmt}
use Rattle.scop_syntax.specs.declared.tree.Test.{Test as CodeTest}
use Rattle.scop_syntax.specs.declared.tree.Test.TheVariants.{AtLeast, Equal}
use Rattle.scop_syntax.specs.declared.tree.Item.{Item}
use Rattle.scop_syntax.specs.declared.tree.Item.TheFolds.{fold-Item}
use Rattle.scop_syntax.specs.declared.tree.Item.TheOpen.{Item-F}
use Rattle.scop_syntax.specs.declared.tree.Kernel.{Kernel}

-- the operator that a value of the code stands for
abbrev pub operator_of : CodeOperator → Operator
operator_of Plus = plus
operator_of Minus = minus
operator_of Times = times
operator_of And = bits_and
operator_of Or = bits_or
operator_of Xor = bits_xor

-- the reason that a value of the code stands for
abbrev pub narrowing_of : CodeNarrowing → Narrowing
narrowing_of Explicit = explicit
narrowing_of Implied = implied
narrowing_of Converted = converted

-- one level of an expression, over the views of the levels below
abbrev pub expression_step : Expr-F Expression → Expression
expression_step (Expr-F.Read a) = read a
expression_step (Expr-F.Constant c) = constant c
expression_step (Expr-F.Affine f) = affine f
expression_step (Expr-F.Negated e) = negated e.value
expression_step (Expr-F.Complemented e) = complemented e.value
expression_step (Expr-F.Cast e) = cast e.value
expression_step (Expr-F.Binary op e f) = binary (operator_of op) e.value f.value
expression_step (Expr-F.ShiftedLeft e k) = shifted_left e.value k
expression_step (Expr-F.ShiftedRight e k) = shifted_right e.value k
expression_step (Expr-F.Narrowed w e) = narrowed (narrowing_of w) e.value

-- the expression that a value of the code stands for
abbrev pub expression_of : Expr → Expression
expression_of = fold-Expr Expression expression_step

-- the right of a place that a value of the code stands for
abbrev pub right_of : CodeRight → Right
right_of (Assigned e) = assigned (expression_of e)
right_of (Combined op e) = combined (operator_of op) (expression_of e)
right_of (ShiftedLeft k) = moved_left k
right_of (ShiftedRight k) = moved_right k
right_of (CombinedNarrow op e) = combined_narrow (operator_of op) (expression_of e)
right_of (ShiftedLeftNarrow k) = moved_left_narrow k

-- the statement that a value of the code stands for
abbrev pub statement_of : Stmt → Statement
statement_of s = record { place = s.place; right = right_of s.right }

-- the comparison that a value of the code stands for
abbrev pub test_of : CodeTest → Test
test_of (AtLeast form) = at_least form
test_of (Equal form) = equal form

-- a list of trees as trees, one after another
abbrev pub trees_of : List Tree → Trees
trees_of [] = none
trees_of (t ∷ ts) = more t (trees_of ts)

-- one level of the tree, over the views of the levels below
abbrev pub tree_step : Item-F Tree → Tree
tree_step (Item-F.Loop head body) = loop head (trees_of body.items)
tree_step (Item-F.Guard guarded body) = guard (map test_of guarded.tests.items) (trees_of body.items)
tree_step (Item-F.Stmt s) = statement (statement_of s)

-- the tree that an item stands for
abbrev pub tree_of : Item → Tree
tree_of = fold-Item Tree tree_step

-- the trees that a row of items stands for
abbrev pub items_of : List Item → Trees
items_of items = trees_of (map tree_of items)

-- the program that a kernel stands for
abbrev pub program_of : Kernel → Program
program_of k =
    record {
      name = k.name.items;
      parameters = map (λ n. n.items) k.parameters.items;
      arrays = k.arrays.items;
      body = items_of k.items.items;
    }

-- the instance that a value of the code stands for: the turns are the first of the array's
abbrev pub instance_of : CodeInstance → Instance
instance_of i = record { number = i.statement; turns = take i.loops i.turns }
