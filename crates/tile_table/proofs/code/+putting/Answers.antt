use Rattle.scop_syntax.proofs.Common.{◌∙◌, ap, refl, ℕ, ℤ, List, [], drop, length, map, IfOk-weaker, Head, value_on}
use Rattle.scop_syntax.proofs.Common.{expression_of, operator_of}
use Rattle.scop_syntax.proofs.Nodes.{chained, complement, conversion, expression_constant, expression_read, left_shift}
use Rattle.scop_syntax.proofs.Nodes.{narrowing, negation, right_shift}
use Rattle.scop_meaning.proofs.Chains.{chained_end}
use Rattle.tile_table.specs.Codes.{changed}
use Rattle.tile_table.specs.Points.{point_in}
use Rattle.tile_table.specs.declared.code.Step.TheVariants.{Binary}
use Rattle.tile_table.specs.steps.Codes.{IsPut}
use Rattle.tile_table.proofs.Compiling.{binary_made, change_made, constant_made, read_made}
use Rattle.tile_table.proofs.code.+putting.Goals as goal

pub put_changed-returns-clause-makes : goal.put_changed-returns-clause-makes
put_changed-returns-clause-makes t c =
    let heads : List Head = map (λ h. h.now) c.args.heads.now in
    let meant = λ (turns : List ℤ) (values : List ℕ).
    value_on (expression_of c.args.operand.now) (point_in heads c.args.params.now turns)
    (drop c.args.at.now values) in
    change_made (length heads) (λ turns values. changed c.args.change (meant turns values)) meant c.args.change
    c.args.code.now c.put_value.new.code c.put.new.code c.in_ok-slot.slot c.put.result c.in_ok-slot.ensures.makes
    (λ turns values. refl) c.put.ensures

pub put_value-returns-in-Read-clause-makes : goal.put_value-returns-in-Read-clause-makes
put_value-returns-in-Read-clause-makes t c =
    let heads : List Head = map (λ h. h.now) c.args.heads.now in
    read_made c.args.params.now heads (expression_of c.args.expression.now) c.in-Read.field-0 c.args.at.now
    c.args.code.now (ap expression_of c.in-Read.is ∙ expression_read c.in-Read.field-0) c.requires.begun
    c.requires.reads

pub put_value-returns-in-Constant-clause-makes : goal.put_value-returns-in-Constant-clause-makes
put_value-returns-in-Constant-clause-makes t c =
    let heads : List Head = map (λ h. h.now) c.args.heads.now in
    let is = ap expression_of c.in-Constant.is ∙ expression_constant c.in-Constant.value in
    constant_made c.args.params.now heads (expression_of c.args.expression.now) c.in-Constant.value c.args.at.now
    c.args.code.now c.put.new.code c.put.result is c.requires.begun c.put.ensures

pub put_value-returns-in-Negated-clause-at : goal.put_value-returns-in-Negated-clause-at
put_value-returns-in-Negated-clause-at t c =
    let is = negation c.args.expression.now c.deref.result.now c.in-Negated.operand
    c.in-Negated.is c.deref.ensures in
    rw is c.put_changed.ensures.at

pub put_value-returns-in-Negated-clause-makes : goal.put_value-returns-in-Negated-clause-makes
put_value-returns-in-Negated-clause-makes t c =
    let is = negation c.args.expression.now c.deref.result.now c.in-Negated.operand
    c.in-Negated.is c.deref.ensures in
    rw is c.put_changed.ensures.makes

pub put_value-returns-in-Complemented-clause-at : goal.put_value-returns-in-Complemented-clause-at
put_value-returns-in-Complemented-clause-at t c =
    let is = complement c.args.expression.now c.deref-in-Complemented.result.now c.in-Complemented.operand
    c.in-Complemented.is c.deref-in-Complemented.ensures in
    rw is c.put_changed-in-Complemented.ensures.at

pub put_value-returns-in-Complemented-clause-makes : goal.put_value-returns-in-Complemented-clause-makes
put_value-returns-in-Complemented-clause-makes t c =
    let is = complement c.args.expression.now c.deref-in-Complemented.result.now c.in-Complemented.operand
    c.in-Complemented.is c.deref-in-Complemented.ensures in
    rw is c.put_changed-in-Complemented.ensures.makes

pub put_value-returns-in-Cast-clause-at : goal.put_value-returns-in-Cast-clause-at
put_value-returns-in-Cast-clause-at t c =
    let is = conversion c.args.expression.now c.deref-in-Cast.result.now c.in-Cast.operand
    c.in-Cast.is c.deref-in-Cast.ensures in
    rw is c.put_value.ensures.at

pub put_value-returns-in-Cast-clause-makes : goal.put_value-returns-in-Cast-clause-makes
put_value-returns-in-Cast-clause-makes t c =
    let is = conversion c.args.expression.now c.deref-in-Cast.result.now c.in-Cast.operand
    c.in-Cast.is c.deref-in-Cast.ensures in
    rw is c.put_value.ensures.makes

pub put_value-returns-in-ShiftedLeft-clause-at : goal.put_value-returns-in-ShiftedLeft-clause-at
put_value-returns-in-ShiftedLeft-clause-at t c =
    let is = left_shift c.args.expression.now c.deref-in-ShiftedLeft.result.now c.in-ShiftedLeft.operand
    c.in-ShiftedLeft.count c.in-ShiftedLeft.is c.deref-in-ShiftedLeft.ensures in
    rw is c.put_changed-in-ShiftedLeft.ensures.at

pub put_value-returns-in-ShiftedLeft-clause-makes : goal.put_value-returns-in-ShiftedLeft-clause-makes
put_value-returns-in-ShiftedLeft-clause-makes t c =
    let is = left_shift c.args.expression.now c.deref-in-ShiftedLeft.result.now c.in-ShiftedLeft.operand
    c.in-ShiftedLeft.count c.in-ShiftedLeft.is c.deref-in-ShiftedLeft.ensures in
    rw is c.put_changed-in-ShiftedLeft.ensures.makes

pub put_value-returns-in-ShiftedRight-clause-at : goal.put_value-returns-in-ShiftedRight-clause-at
put_value-returns-in-ShiftedRight-clause-at t c =
    let is = right_shift c.args.expression.now c.deref-in-ShiftedRight.result.now c.in-ShiftedRight.operand
    c.in-ShiftedRight.count c.in-ShiftedRight.is c.deref-in-ShiftedRight.ensures in
    rw is c.put_changed-in-ShiftedRight.ensures.at

pub put_value-returns-in-ShiftedRight-clause-makes : goal.put_value-returns-in-ShiftedRight-clause-makes
put_value-returns-in-ShiftedRight-clause-makes t c =
    let is = right_shift c.args.expression.now c.deref-in-ShiftedRight.result.now c.in-ShiftedRight.operand
    c.in-ShiftedRight.count c.in-ShiftedRight.is c.deref-in-ShiftedRight.ensures in
    rw is c.put_changed-in-ShiftedRight.ensures.makes

pub put_value-returns-in-Narrowed-clause-at : goal.put_value-returns-in-Narrowed-clause-at
put_value-returns-in-Narrowed-clause-at t c =
    let is = narrowing c.args.expression.now c.deref-in-Narrowed.result.now c.in-Narrowed.field-0 c.in-Narrowed.operand
    c.in-Narrowed.is c.deref-in-Narrowed.ensures in
    rw is c.put_changed-in-Narrowed.ensures.at

pub put_value-returns-in-Narrowed-clause-makes : goal.put_value-returns-in-Narrowed-clause-makes
put_value-returns-in-Narrowed-clause-makes t c =
    let is = narrowing c.args.expression.now c.deref-in-Narrowed.result.now c.in-Narrowed.field-0 c.in-Narrowed.operand
    c.in-Narrowed.is c.deref-in-Narrowed.ensures in
    rw is c.put_changed-in-Narrowed.ensures.makes

pub put_value-returns-in_ok-second-in-Binary-clause-at : goal.put_value-returns-in_ok-second-in-Binary-clause-at
put_value-returns-in_ok-second-in-Binary-clause-at t c =
    let l = c.deref-in-Binary.result.now in
    let r = c.deref-in-Binary-2.result.now in
    let op = c.in-Binary.operator in
    let is = chained c.args.expression.now op c.in-Binary.left c.in-Binary.right l r c.in-Binary.is
    c.deref-in-Binary.ensures c.deref-in-Binary-2.ensures in
    IfOk-weaker c.put-in-Binary.result
    (IsPut [] (Binary op c.in_ok-first-in-Binary.first c.in_ok-second-in-Binary.second) c.put_value-in-Binary-2.new.code
    c.put-in-Binary.new.code) _
    (λ slot put.
    chained_end _ (expression_of l) (expression_of r) (operator_of op) c.args.at.now c.put_value-in-Binary.new.at _ is
    c.in_ok-first-in-Binary.ensures.at c.in_ok-second-in-Binary.ensures.at)
    c.put-in-Binary.ensures

pub put_value-returns-in_ok-second-in-Binary-clause-makes : goal.put_value-returns-in_ok-second-in-Binary-clause-makes
put_value-returns-in_ok-second-in-Binary-clause-makes t c =
    let heads : List Head = map (λ h. h.now) c.args.heads.now in
    let l = c.deref-in-Binary.result.now in
    let r = c.deref-in-Binary-2.result.now in
    let op = c.in-Binary.operator in
    let is = chained c.args.expression.now op c.in-Binary.left c.in-Binary.right l r c.in-Binary.is
    c.deref-in-Binary.ensures c.deref-in-Binary-2.ensures in
    binary_made c.args.params.now heads (expression_of c.args.expression.now) (expression_of l) (expression_of r) op
    c.args.at.now c.put_value-in-Binary.new.at c.args.code.now c.put_value-in-Binary.new.code
    c.put_value-in-Binary-2.new.code c.put-in-Binary.new.code c.in_ok-first-in-Binary.first
    c.in_ok-second-in-Binary.second c.put-in-Binary.result is c.in_ok-first-in-Binary.ensures.makes
    c.in_ok-first-in-Binary.ensures.at c.in_ok-second-in-Binary.ensures.makes c.put-in-Binary.ensures
