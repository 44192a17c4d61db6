use Rattle.scop_syntax.proofs.Common.{length, ap, ◌∙◌, arith, refl, Expression, reads_of, expression_of, operator_of}
use Rattle.scop_syntax.proofs.Nodes.{chained, complement, conversion, expression_read, left_shift, narrowing, negation}
use Rattle.scop_syntax.proofs.Nodes.{right_shift}
use Rattle.scop_meaning.proofs.Chains.{chained_end, chained_value}
use Rattle.scop_meaning.proofs.expressions.+value_from.Goals as goal

pub bounds-reads-at : goal.bounds-reads-at
bounds-reads-at t c =
    let all = ap (λ (x : Expression). length (reads_of x))
    (ap expression_of c.in-Read.is ∙ expression_read c.in-Read.field-0) in
    let room = c.requires in
    omega arith

pub returns-in-Read-clause-at : goal.returns-in-Read-clause-at
returns-in-Read-clause-at t c =
    let all = ap (λ (x : Expression). length (reads_of x))
    (ap expression_of c.in-Read.is ∙ expression_read c.in-Read.field-0) in
    omega arith

pub returns-in-Binary-clause-value : goal.returns-in-Binary-clause-value
returns-in-Binary-clause-value t c =
    let l = c.deref-in-Binary.result.now in
    let r = c.deref-in-Binary-2.result.now in
    let is = chained c.args.expression.now c.in-Binary.operator c.in-Binary.left c.in-Binary.right l r c.in-Binary.is
    c.deref-in-Binary.ensures c.deref-in-Binary-2.ensures in
    chained_value _ (expression_of l) (expression_of r) (operator_of c.in-Binary.operator) c.args.point.now
    c.args.reads.now c.args.at.now c.value_from-first.new.at c.value_from-first.result c.value_from-second.result
    c.combined.result is c.value_from-first.ensures.at c.value_from-first.ensures.value
    c.value_from-second.ensures.value c.combined.ensures

pub returns-in-Binary-clause-at : goal.returns-in-Binary-clause-at
returns-in-Binary-clause-at t c =
    let l = c.deref-in-Binary.result.now in
    let r = c.deref-in-Binary-2.result.now in
    let is = chained c.args.expression.now c.in-Binary.operator c.in-Binary.left c.in-Binary.right l r c.in-Binary.is
    c.deref-in-Binary.ensures c.deref-in-Binary-2.ensures in
    chained_end _ (expression_of l) (expression_of r) (operator_of c.in-Binary.operator) c.args.at.now
    c.value_from-first.new.at c.value_from-second.new.at is c.value_from-first.ensures.at
    c.value_from-second.ensures.at

pub returns-in-Negated-clause-value : goal.returns-in-Negated-clause-value
returns-in-Negated-clause-value t c =
    let is = negation c.args.expression.now c.deref.result.now c.in-Negated.operand c.in-Negated.is c.deref.ensures in
    rw (is, c.negated.ensures, c.value_from.ensures.value) refl

pub returns-in-Complemented-clause-value : goal.returns-in-Complemented-clause-value
returns-in-Complemented-clause-value t c =
    let is = complement c.args.expression.now c.deref-in-Complemented.result.now c.in-Complemented.operand
    c.in-Complemented.is c.deref-in-Complemented.ensures in
    rw (is, c.complemented.ensures, c.value_from-in-Complemented.ensures.value) refl

pub returns-in-Cast-clause-value : goal.returns-in-Cast-clause-value
returns-in-Cast-clause-value t c =
    let is = conversion c.args.expression.now c.deref-in-Cast.result.now c.in-Cast.operand c.in-Cast.is
    c.deref-in-Cast.ensures in
    rw (is, c.value_from-in-Cast.ensures.value) refl

pub returns-in-ShiftedLeft-clause-value : goal.returns-in-ShiftedLeft-clause-value
returns-in-ShiftedLeft-clause-value t c =
    let is = left_shift c.args.expression.now c.deref-in-ShiftedLeft.result.now c.in-ShiftedLeft.operand
    c.in-ShiftedLeft.count c.in-ShiftedLeft.is c.deref-in-ShiftedLeft.ensures in
    rw (is, c.shifted_left.ensures, c.value_from-in-ShiftedLeft.ensures.value) refl

pub returns-in-ShiftedRight-clause-value : goal.returns-in-ShiftedRight-clause-value
returns-in-ShiftedRight-clause-value t c =
    let is = right_shift c.args.expression.now c.deref-in-ShiftedRight.result.now c.in-ShiftedRight.operand
    c.in-ShiftedRight.count c.in-ShiftedRight.is c.deref-in-ShiftedRight.ensures in
    rw (is, c.shifted_right.ensures, c.value_from-in-ShiftedRight.ensures.value) refl

pub returns-in-Negated-clause-at : goal.returns-in-Negated-clause-at
returns-in-Negated-clause-at t c =
    let is = negation c.args.expression.now c.deref.result.now c.in-Negated.operand c.in-Negated.is c.deref.ensures in
    rw is c.value_from.ensures.at

pub returns-in-Complemented-clause-at : goal.returns-in-Complemented-clause-at
returns-in-Complemented-clause-at t c =
    let is = complement c.args.expression.now c.deref-in-Complemented.result.now c.in-Complemented.operand
    c.in-Complemented.is c.deref-in-Complemented.ensures in
    rw is c.value_from-in-Complemented.ensures.at

pub returns-in-Cast-clause-at : goal.returns-in-Cast-clause-at
returns-in-Cast-clause-at t c =
    let is = conversion c.args.expression.now c.deref-in-Cast.result.now c.in-Cast.operand c.in-Cast.is
    c.deref-in-Cast.ensures in
    rw is c.value_from-in-Cast.ensures.at

pub returns-in-ShiftedLeft-clause-at : goal.returns-in-ShiftedLeft-clause-at
returns-in-ShiftedLeft-clause-at t c =
    let is = left_shift c.args.expression.now c.deref-in-ShiftedLeft.result.now c.in-ShiftedLeft.operand
    c.in-ShiftedLeft.count c.in-ShiftedLeft.is c.deref-in-ShiftedLeft.ensures in
    rw is c.value_from-in-ShiftedLeft.ensures.at

pub returns-in-ShiftedRight-clause-at : goal.returns-in-ShiftedRight-clause-at
returns-in-ShiftedRight-clause-at t c =
    let is = right_shift c.args.expression.now c.deref-in-ShiftedRight.result.now c.in-ShiftedRight.operand
    c.in-ShiftedRight.count c.in-ShiftedRight.is c.deref-in-ShiftedRight.ensures in
    rw is c.value_from-in-ShiftedRight.ensures.at

pub returns-in-Narrowed-clause-value : goal.returns-in-Narrowed-clause-value
returns-in-Narrowed-clause-value t c =
    let is = narrowing c.args.expression.now c.deref-in-Narrowed.result.now c.in-Narrowed.field-0 c.in-Narrowed.operand
    c.in-Narrowed.is c.deref-in-Narrowed.ensures in
    rw (is, c.narrowed.ensures, c.value_from-in-Narrowed.ensures.value) refl

pub returns-in-Narrowed-clause-at : goal.returns-in-Narrowed-clause-at
returns-in-Narrowed-clause-at t c =
    let is = narrowing c.args.expression.now c.deref-in-Narrowed.result.now c.in-Narrowed.field-0 c.in-Narrowed.operand
    c.in-Narrowed.is c.deref-in-Narrowed.ensures in
    rw is c.value_from-in-Narrowed.ensures.at
