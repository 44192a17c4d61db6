use Rattle.whole_numbers.proofs.Common.{◌+◌, ◌-◌, ◌++◌, ◌<◌, ◌≡◌, length, ap, sym, ◌∙◌, arith, slice_get}
use Rattle.whole_numbers.proofs.Entries.{get_behind, get_front}
use Rattle.scop_syntax.specs.Cells.{reads_of}
use Rattle.scop_syntax.specs.Tree.{Expression}
use Rattle.scop_syntax.specs.View.{expression_of}
use Rattle.scop_syntax.specs.declared.tree.Expr.{Expr}
use Rattle.scop_syntax.proofs.Nodes.{complement, conversion, left_shift, narrowing, negation, right_shift}
use Rattle.scop_syntax.proofs.Views.{expression_binary}
use Rattle.scop_syntax.proofs.accesses.+read_at.Goals as goal

pub returns-then-number-before : goal.returns-then-number-before
returns-then-number-before t c =
    let e = expression_of c.in-Binary.left.value in
    let f = expression_of c.in-Binary.right.value in
    let n = c.args.number in
    let is = ap expression_of c.in-Binary.is
    ∙ expression_binary c.in-Binary.field-0 c.in-Binary.left c.in-Binary.right in
    let left = ap (λ (x : Expr). reads_of (expression_of x)) c.deref-in-Binary.ensures in
    let count = c.count_reads-before.ensures ∙ ap length left in
    let h : n < length (reads_of e) = omega (arith, c.if-number-before.true) in
    let again = ap (λ (x : Expr). slice_get (reads_of (expression_of x)) n) c.deref-then-number-before.ensures in
    ap (λ (x : Expression). slice_get (reads_of x) n) is
    ∙ (get_front (reads_of e) (reads_of f) n h ∙ (sym again ∙ c.read_at-then-number-before.ensures))

pub returns-else-number-before : goal.returns-else-number-before
returns-else-number-before t c =
    let e = expression_of c.in-Binary.left.value in
    let f = expression_of c.in-Binary.right.value in
    let n = c.args.number in
    let is = ap expression_of c.in-Binary.is
    ∙ expression_binary c.in-Binary.field-0 c.in-Binary.left c.in-Binary.right in
    let left = ap (λ (x : Expr). reads_of (expression_of x)) c.deref-in-Binary.ensures in
    let count = c.count_reads-before.ensures ∙ ap length left in
    let on : n ≡ length (reads_of e) + (n - length (reads_of e)) = omega (arith, c.if-number-before.false) in
    let again = ap (λ (x : Expr). slice_get (reads_of (expression_of x)) (n - c.count_reads-before.result))
    c.deref-else-number-before.ensures in
    ap (λ (x : Expression). slice_get (reads_of x) n) is
    ∙ (ap (slice_get (reads_of e ++ reads_of f)) on
    ∙ (get_behind (reads_of e) (reads_of f) (n - length (reads_of e))
    ∙ (ap (λ k. slice_get (reads_of f) (n - k)) (sym count) ∙ (sym again ∙ c.read_at-else-number-before.ensures))))

pub returns-in-Negated : goal.returns-in-Negated
returns-in-Negated t c =
    let is = negation c.args.expression.now c.deref.result.now c.in-Negated.operand c.in-Negated.is c.deref.ensures in
    rw is c.read_at.ensures

pub returns-in-Complemented : goal.returns-in-Complemented
returns-in-Complemented t c =
    let is = complement c.args.expression.now c.deref-in-Complemented.result.now c.in-Complemented.operand
    c.in-Complemented.is c.deref-in-Complemented.ensures in
    rw is c.read_at-in-Complemented.ensures

pub returns-in-Cast : goal.returns-in-Cast
returns-in-Cast t c =
    let is = conversion c.args.expression.now c.deref-in-Cast.result.now c.in-Cast.operand c.in-Cast.is
    c.deref-in-Cast.ensures in
    rw is c.read_at-in-Cast.ensures

pub returns-in-ShiftedLeft : goal.returns-in-ShiftedLeft
returns-in-ShiftedLeft t c =
    let is = left_shift c.args.expression.now c.deref-in-ShiftedLeft.result.now c.in-ShiftedLeft.operand
    c.in-ShiftedLeft.field-1 c.in-ShiftedLeft.is c.deref-in-ShiftedLeft.ensures in
    rw is c.read_at-in-ShiftedLeft.ensures

pub returns-in-ShiftedRight : goal.returns-in-ShiftedRight
returns-in-ShiftedRight t c =
    let is = right_shift c.args.expression.now c.deref-in-ShiftedRight.result.now c.in-ShiftedRight.operand
    c.in-ShiftedRight.field-1 c.in-ShiftedRight.is c.deref-in-ShiftedRight.ensures in
    rw is c.read_at-in-ShiftedRight.ensures

pub returns-in-Narrowed : goal.returns-in-Narrowed
returns-in-Narrowed t c =
    let is = narrowing c.args.expression.now c.deref-in-Narrowed.result.now c.in-Narrowed.field-0 c.in-Narrowed.operand
    c.in-Narrowed.is c.deref-in-Narrowed.ensures in
    rw is c.read_at-in-Narrowed.ensures
