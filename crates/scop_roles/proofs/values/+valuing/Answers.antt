use Rattle.scop_syntax.proofs.Common.{◌≡◌, false, map, fold, ap, sym, subst, ◌∙◌, refl, arith, IfOk, expression_of}
use Rattle.scop_expressions.specs.Op.TheVariants as op
use Rattle.scop_roles.specs.Formula.{argument_of, formula_of, index, unary, cast, binary, with_argument}
use Rattle.scop_roles.specs.Forms.{is_signed, is_narrow}
use Rattle.scop_roles.specs.Values.{IsValueOf}
use Rattle.scop_roles.proofs.Views.{formula_index, formula_unary, formula_cast, formula_commas, formula_binary}
use Rattle.scop_roles.proofs.FormulaValues.{if_ok, read_value, signed_unary_value, signed_binary_value}
use Rattle.scop_roles.proofs.Chains.{makes_next, makes_whole}
use Rattle.scop_roles.proofs.values.+valuing.Goals as goal

pub value-returns-in-Index : goal.value-returns-in-Index
value-returns-in-Index t c =
    let e = ap formula_of c.in-Index.is ∙ formula_index c.in-Index.field-0 c.in-Index.field-1 c.in-Index.field-2 in
    if_ok c.place_value.result
    (λ x x_is. read_value c.args.entries (formula_of c.args.formula.now)
    (fold index (formula_of c.in-Index.field-0.value) (map formula_of c.in-Index.field-1.items))
    (formula_of c.in-Index.field-2.value) (expression_of x) e x_is) c.place_value.ensures

pub value-returns-then-is_signed : goal.value-returns-then-is_signed
value-returns-then-is_signed t c =
    let e = ap formula_of c.in-Unary.is ∙ formula_unary c.in-Unary.sign c.in-Unary.operand c.in-Unary.field-2 in
    if_ok c.signed_part.result
    (λ x x_is. signed_unary_value c.args.entries (formula_of c.args.formula.now) c.in-Unary.sign
    (formula_of c.in-Unary.operand.value) c.in-Unary.field-2 (expression_of x) e
    (sym c.is_signed.ensures ∙ c.if-is_signed.true) x_is) c.signed_part.ensures

pub value-returns-else-is_signed : goal.value-returns-else-is_signed
value-returns-else-is_signed t c =
    let n = c.args.entries in
    let s = c.in-Unary.sign in
    let at = c.in-Unary.field-2 in
    let f = formula_of c.deref.result.now in
    let e = ap formula_of c.in-Unary.is ∙ formula_unary s c.in-Unary.operand at
    ∙ ap (λ v. unary s (formula_of v) at) (sym c.deref.ensures) in
    let unsigned = subst (λ f. is_signed f ≡ false) e (sym c.is_signed.ensures ∙ c.if-is_signed.false) in
    if_ok c.unary_value.result (λ x x_is. subst (λ f. IsValueOf n f (expression_of x)) (sym e) x_is)
    (c.unary_value.ensures n f at unsigned (c.is_narrow.ensures ∙ ap is_narrow e) c.value-operand.ensures)

pub value-returns-in-Cast : goal.value-returns-in-Cast
value-returns-in-Cast t c =
    let n = c.args.entries in
    let w = c.in-Cast.width in
    let at = c.in-Cast.field-2 in
    let e = ap formula_of c.in-Cast.is ∙ formula_cast w c.in-Cast.operand at
    ∙ ap (λ v. cast w (formula_of v) at) (sym c.deref-in-Cast.ensures) in
    if_ok c.cast_value.result (λ x x_is. subst (λ f. IsValueOf n f (expression_of x)) (sym e) x_is)
    (c.cast_value.ensures n (formula_of c.deref-in-Cast.result.now) at c.value-operand-in-Cast.ensures)

pub value-returns-in-Commas : goal.value-returns-in-Commas
value-returns-in-Commas t c =
    let n = c.args.entries in
    let at = c.in-Commas.field-3 in
    let f = formula_of c.in-Commas.first.value in
    let left = fold with_argument f (map argument_of c.in-Commas.between.items) in
    let e = ap formula_of c.in-Commas.is
    ∙ formula_commas c.in-Commas.first c.in-Commas.between c.in-Commas.last at
    ∙ ap (λ v. binary op.Comma left (formula_of v) at) (sym c.deref-in-Commas-3.ensures) in
    let here = subst (λ v. IfOk c.value-first.result (λ x. IsValueOf n (formula_of v) (expression_of x)))
    c.deref-in-Commas.ensures c.value-first.ensures in
    let there = subst (λ gs. IfOk c.arguments_value-left.result
    (λ x. IsValueOf n (fold with_argument f (map argument_of gs)) (expression_of x)))
    c.deref-in-Commas-2.ensures.value (c.arguments_value-left.ensures f here) in
    if_ok c.sides_value.result (λ x x_is. subst (λ f. IsValueOf n f (expression_of x)) (sym e) x_is)
    (c.sides_value.ensures n left (formula_of c.deref-in-Commas-3.result.now) at refl refl there c.value-last.ensures)

pub value-returns-then-is_signed-2 : goal.value-returns-then-is_signed-2
value-returns-then-is_signed-2 t c =
    let e = ap formula_of c.in-Binary.is ∙ formula_binary c.in-Binary.op c.in-Binary.left c.in-Binary.right
    c.in-Binary.field-3 in
    if_ok c.signed_part-then-is_signed-2.result
    (λ x x_is. signed_binary_value c.args.entries (formula_of c.args.formula.now) c.in-Binary.op
    (formula_of c.in-Binary.left.value) (formula_of c.in-Binary.right.value) c.in-Binary.field-3 (expression_of x) e
    (sym c.is_signed-in-Binary.ensures ∙ c.if-is_signed-2.true) x_is) c.signed_part-then-is_signed-2.ensures

pub value-returns-then-is_shift : goal.value-returns-then-is_shift
value-returns-then-is_shift t c =
    let n = c.args.entries in
    let o = c.in-Binary.op in
    let at = c.in-Binary.field-3 in
    let f = formula_of c.deref-in-Binary.result.now in
    let e = ap formula_of c.in-Binary.is ∙ formula_binary o c.in-Binary.left c.in-Binary.right at
    ∙ ap (λ v. binary o (formula_of v) (formula_of c.in-Binary.right.value) at) (sym c.deref-in-Binary.ensures)
    ∙ ap (λ v. binary o f (formula_of v) at) (sym c.deref-then-is_shift.ensures) in
    let unsigned = subst (λ f. is_signed f ≡ false) e (sym c.is_signed-in-Binary.ensures ∙ c.if-is_signed-2.false) in
    let here = subst (λ v. IfOk c.value.result (λ x. IsValueOf n (formula_of v) (expression_of x)))
    (c.deref-in-Binary-2.ensures ∙ sym c.deref-in-Binary.ensures) c.value.ensures in
    if_ok c.shift_value.result (λ x x_is. subst (λ f. IsValueOf n f (expression_of x)) (sym e) x_is)
    (c.shift_value.ensures n f at unsigned (c.is_narrow-narrow.ensures ∙ ap is_narrow e)
    (c.side_value-left_value.ensures n here))

pub value-returns-else-is_shift : goal.value-returns-else-is_shift
value-returns-else-is_shift t c =
    let n = c.args.entries in
    let o = c.in-Binary.op in
    let at = c.in-Binary.field-3 in
    let f = formula_of c.deref-in-Binary.result.now in
    let g = formula_of c.deref-in-Binary-3.result.now in
    let e = ap formula_of c.in-Binary.is ∙ formula_binary o c.in-Binary.left c.in-Binary.right at
    ∙ ap (λ v. binary o (formula_of v) (formula_of c.in-Binary.right.value) at) (sym c.deref-in-Binary.ensures)
    ∙ ap (λ v. binary o f (formula_of v) at) (sym c.deref-in-Binary-3.ensures) in
    let unsigned = subst (λ f. is_signed f ≡ false) e (sym c.is_signed-in-Binary.ensures ∙ c.if-is_signed-2.false) in
    let here = subst (λ v. IfOk c.value.result (λ x. IsValueOf n (formula_of v) (expression_of x)))
    (c.deref-in-Binary-2.ensures ∙ sym c.deref-in-Binary.ensures) c.value.ensures in
    let there = subst (λ v. IfOk c.value-in-Binary.result (λ x. IsValueOf n (formula_of v) (expression_of x)))
    (c.deref-in-Binary-4.ensures ∙ sym c.deref-in-Binary-3.ensures) c.value-in-Binary.ensures in
    if_ok c.sides_value-in-Binary.result (λ x x_is. subst (λ f. IsValueOf n f (expression_of x)) (sym e) x_is)
    (c.sides_value-in-Binary.ensures n f g at unsigned (c.is_narrow-narrow.ensures ∙ ap is_narrow e)
    (c.side_value-left_value.ensures n here) (c.side_value-right_value.ensures n there))

pub arguments_value-loop-other-preserved : goal.arguments_value-loop-other-preserved
arguments_value-loop-other-preserved t c f h =
    let n = c.args.entries in
    let l = c.loop-other in
    let other = c.other-item.result in
    makes_next argument_of with_argument (λ q. IfOk l.left (λ x. IsValueOf n q (expression_of x)))
    (λ q. IfOk c.sides_value-left.result (λ x. IsValueOf n q (expression_of x))) c.args.others.now l.other-index other
    (fold with_argument f (map argument_of c.args.others.now)) c.other-item.is c.loop-other-test.true
    (λ q here. c.sides_value-left.ensures n q (formula_of other.value) other.comma refl refl here c.value-right.ensures)
    (l.invariant f h)

pub arguments_value-loop-other-init : goal.arguments_value-loop-other-init
arguments_value-loop-other-init t c f h = (f, h, refl)

pub arguments_value-returns : goal.arguments_value-returns
arguments_value-returns t c f h =
    let l = c.loop-other in
    makes_whole argument_of with_argument (λ q. IfOk l.left (λ x. IsValueOf c.args.entries q (expression_of x)))
    c.args.others.now l.other-index (fold with_argument f (map argument_of c.args.others.now)) (omega arith)
    (l.invariant f h)
