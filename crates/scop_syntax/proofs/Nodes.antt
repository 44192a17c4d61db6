-- The expressions that the code's nodes stand for, their parts read through references.
use Rattle.whole_numbers.proofs.Common.{◌≡◌, ℕ, ap, ap₂, sym, ◌∙◌, Box}
use Rattle.scop_syntax.specs.Tree.{Access, Expression, read, constant, negated, complemented, cast, binary, shifted_left}
use Rattle.scop_syntax.specs.Tree.{shifted_right, narrowed}
use Rattle.scop_syntax.specs.View.{expression_of, expression_step, narrowing_of, operator_of}
use Rattle.scop_syntax.specs.declared.tree.Operator.{Operator as Code}
use Rattle.scop_syntax.specs.declared.tree.Narrowing.{Narrowing}
use Rattle.scop_syntax.specs.declared.tree.Expr.{Expr}
use Rattle.scop_syntax.specs.declared.tree.Expr.TheVariants.{Binary, Cast, Complemented, Constant, Narrowed, Negated}
use Rattle.scop_syntax.specs.declared.tree.Expr.TheVariants.{Read, ShiftedLeft, ShiftedRight, rolls-Cast}
use Rattle.scop_syntax.specs.declared.tree.Expr.TheVariants.{rolls-Complemented, rolls-Constant, rolls-Narrowed}
use Rattle.scop_syntax.specs.declared.tree.Expr.TheVariants.{rolls-Negated, rolls-Read, rolls-ShiftedLeft}
use Rattle.scop_syntax.specs.declared.tree.Expr.TheVariants.{rolls-ShiftedRight}
use Rattle.scop_syntax.specs.declared.tree.Expr.TheFolds.{fold-roll-Expr}
use Rattle.scop_syntax.specs.declared.tree.Expr.TheOpen.{Expr-F}
use Rattle.scop_syntax.proofs.Views.{expression_binary}

-- a node of two parts stands for that of its parts
pub chained : (whole : Expr) (op : Code) (left right : Box Expr) (l r : Expr) → whole ≡ Binary op left right
    → l ≡ left.value → r ≡ right.value
    → expression_of whole ≡ binary (operator_of op) (expression_of l) (expression_of r)
chained whole op left right l r is first second =
    ap expression_of is
    ∙ (expression_binary op left right
    ∙ ap₂ (λ (x y : Expr). binary (operator_of op) (expression_of x) (expression_of y)) (sym first) (sym second))

pub expression_read : (a : Access) → expression_of (Read a) ≡ read a
expression_read a =
    ap expression_of (sym (rolls-Read a)) ∙ fold-roll-Expr Expression expression_step (Expr-F.Read a)

pub expression_constant : (c : ℕ) → expression_of (Constant c) ≡ constant c
expression_constant c =
    ap expression_of (sym (rolls-Constant c)) ∙ fold-roll-Expr Expression expression_step (Expr-F.Constant c)

-- a negation stands for that of its part
pub negation : (whole part : Expr) (operand : Box Expr) → whole ≡ Negated operand → part ≡ operand.value
    → expression_of whole ≡ negated (expression_of part)
negation whole part operand is there =
    ap expression_of (is ∙ sym (rolls-Negated operand))
    ∙ (fold-roll-Expr Expression expression_step (Expr-F.Negated operand)
    ∙ ap (λ (x : Expr). negated (expression_of x)) (sym there))

-- a complement stands for that of its part
pub complement : (whole part : Expr) (operand : Box Expr) → whole ≡ Complemented operand → part ≡ operand.value
    → expression_of whole ≡ complemented (expression_of part)
complement whole part operand is there =
    ap expression_of (is ∙ sym (rolls-Complemented operand))
    ∙ (fold-roll-Expr Expression expression_step (Expr-F.Complemented operand)
    ∙ ap (λ (x : Expr). complemented (expression_of x)) (sym there))

-- a cast stands for that of its part
pub conversion : (whole part : Expr) (operand : Box Expr) → whole ≡ Cast operand → part ≡ operand.value
    → expression_of whole ≡ cast (expression_of part)
conversion whole part operand is there =
    ap expression_of (is ∙ sym (rolls-Cast operand))
    ∙ (fold-roll-Expr Expression expression_step (Expr-F.Cast operand)
    ∙ ap (λ (x : Expr). cast (expression_of x)) (sym there))

-- a shift to the left stands for that of its part
pub left_shift : (whole part : Expr) (operand : Box Expr) (k : ℕ) → whole ≡ ShiftedLeft operand k → part ≡ operand.value
    → expression_of whole ≡ shifted_left (expression_of part) k
left_shift whole part operand k is there =
    ap expression_of (is ∙ sym (rolls-ShiftedLeft operand k))
    ∙ (fold-roll-Expr Expression expression_step (Expr-F.ShiftedLeft operand k)
    ∙ ap (λ (x : Expr). shifted_left (expression_of x) k) (sym there))

-- a shift to the right stands for that of its part
pub right_shift : (whole part : Expr) (operand : Box Expr) (k : ℕ) → whole ≡ ShiftedRight operand k
    → part ≡ operand.value → expression_of whole ≡ shifted_right (expression_of part) k
right_shift whole part operand k is there =
    ap expression_of (is ∙ sym (rolls-ShiftedRight operand k))
    ∙ (fold-roll-Expr Expression expression_step (Expr-F.ShiftedRight operand k)
    ∙ ap (λ (x : Expr). shifted_right (expression_of x) k) (sym there))

-- what is kept to 32 bits stands for its part, kept to 32 bits
pub narrowing : (whole part : Expr) (w : Narrowing) (operand : Box Expr) → whole ≡ Narrowed w operand
    → part ≡ operand.value → expression_of whole ≡ narrowed (narrowing_of w) (expression_of part)
narrowing whole part w operand is there =
    ap expression_of (is ∙ sym (rolls-Narrowed w operand))
    ∙ (fold-roll-Expr Expression expression_step (Expr-F.Narrowed w operand)
    ∙ ap (λ (x : Expr). narrowed (narrowing_of w) (expression_of x)) (sym there))
