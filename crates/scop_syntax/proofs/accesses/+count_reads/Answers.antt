use Rattle.whole_numbers.proofs.Common.{length, ap, arith, length-append}
use Rattle.scop_syntax.specs.Cells.{reads_of}
use Rattle.scop_syntax.specs.Tree.{Expression}
use Rattle.scop_syntax.specs.View.{expression_of}
use Rattle.scop_syntax.proofs.Nodes.{chained, complement, conversion, left_shift, narrowing, negation, right_shift}
use Rattle.scop_syntax.proofs.accesses.+count_reads.Goals as goal

pub returns-in-Negated : goal.returns-in-Negated
returns-in-Negated t c =
    let is = negation c.args.expression.now c.deref.result.now c.in-Negated.operand c.in-Negated.is c.deref.ensures in
    rw is c.count_reads.ensures

pub returns-in-Complemented : goal.returns-in-Complemented
returns-in-Complemented t c =
    let is = complement c.args.expression.now c.deref-in-Complemented.result.now c.in-Complemented.operand
    c.in-Complemented.is c.deref-in-Complemented.ensures in
    rw is c.count_reads-in-Complemented.ensures

pub returns-in-Cast : goal.returns-in-Cast
returns-in-Cast t c =
    let is = conversion c.args.expression.now c.deref-in-Cast.result.now c.in-Cast.operand c.in-Cast.is
    c.deref-in-Cast.ensures in
    rw is c.count_reads-in-Cast.ensures

pub returns-in-ShiftedLeft : goal.returns-in-ShiftedLeft
returns-in-ShiftedLeft t c =
    let is = left_shift c.args.expression.now c.deref-in-ShiftedLeft.result.now c.in-ShiftedLeft.operand
    c.in-ShiftedLeft.field-1 c.in-ShiftedLeft.is c.deref-in-ShiftedLeft.ensures in
    rw is c.count_reads-in-ShiftedLeft.ensures

pub returns-in-ShiftedRight : goal.returns-in-ShiftedRight
returns-in-ShiftedRight t c =
    let is = right_shift c.args.expression.now c.deref-in-ShiftedRight.result.now c.in-ShiftedRight.operand
    c.in-ShiftedRight.field-1 c.in-ShiftedRight.is c.deref-in-ShiftedRight.ensures in
    rw is c.count_reads-in-ShiftedRight.ensures

pub overflow_add-result : goal.overflow_add-result
overflow_add-result t c =
    let l = c.deref-in-Binary.result.now in
    let r = c.deref-in-Binary-2.result.now in
    let is = chained c.args.expression.now c.in-Binary.field-0 c.in-Binary.left c.in-Binary.right l r c.in-Binary.is
    c.deref-in-Binary.ensures c.deref-in-Binary-2.ensures in
    let all = ap (λ (x : Expression). length (reads_of x)) is in
    let joined = length-append (reads_of (expression_of l)) (reads_of (expression_of r)) in
    omega (arith, c.requires, c.count_reads-in-Binary.ensures, c.count_reads-in-Binary-2.ensures)

pub returns-in-Binary : goal.returns-in-Binary
returns-in-Binary t c =
    let l = c.deref-in-Binary.result.now in
    let r = c.deref-in-Binary-2.result.now in
    let is = chained c.args.expression.now c.in-Binary.field-0 c.in-Binary.left c.in-Binary.right l r c.in-Binary.is
    c.deref-in-Binary.ensures c.deref-in-Binary-2.ensures in
    let all = ap (λ (x : Expression). length (reads_of x)) is in
    let joined = length-append (reads_of (expression_of l)) (reads_of (expression_of r)) in
    omega (arith, c.count_reads-in-Binary.ensures, c.count_reads-in-Binary-2.ensures)

pub returns-in-Narrowed : goal.returns-in-Narrowed
returns-in-Narrowed t c =
    let is = narrowing c.args.expression.now c.deref-in-Narrowed.result.now c.in-Narrowed.field-0 c.in-Narrowed.operand
    c.in-Narrowed.is c.deref-in-Narrowed.ensures in
    rw is c.count_reads-in-Narrowed.ensures
