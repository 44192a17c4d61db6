use Rattle.scop_syntax.proofs.Common.{map, fold, ap, sym, subst, ◌∙◌, refl, arith, IfOk}
use Rattle.scop_roles.specs.Formula.{argument_of, binary, cast, index, formula_of, unary, with_argument}
use Rattle.scop_roles.specs.steps.Judgement.{IsJudgement}
use Rattle.scop_roles.proofs.Views.{formula_index, formula_bare_call, formula_unary, formula_cast, formula_commas}
use Rattle.scop_roles.proofs.Views.{formula_binary}
use Rattle.scop_roles.proofs.Chains.{makes_next, makes_whole}
use Rattle.scop_roles.proofs.FormulaValues.{judged_limits}
use Rattle.scop_roles.proofs.judgement.+judging.Goals as goal

pub judge-returns-in-BareCall : goal.judge-returns-in-BareCall
judge-returns-in-BareCall t c =
    let e = ap formula_of c.in-BareCall.is ∙ formula_bare_call c.in-BareCall.meaning c.in-BareCall.at in
    subst (λ f. IsJudgement c.args.entries f c.of_bare_call.result) (sym e) (c.of_bare_call.ensures c.args.entries)

pub judge-returns-in-Index : goal.judge-returns-in-Index
judge-returns-in-Index t c =
    let n = c.args.entries in
    let p = formula_of c.in-Index.place.value in
    let whole = fold index p (map formula_of c.in-Index.earlier.items) in
    let e = ap formula_of c.in-Index.is ∙ formula_index c.in-Index.place c.in-Index.earlier c.in-Index.last in
    let here = subst (λ v. IfOk c.judge-place.result (IsJudgement n (formula_of v))) c.deref.ensures
    c.judge-place.ensures in
    let there = subst (λ xs. IfOk c.judge_subscripts-place.result (IsJudgement n (fold index p (map formula_of xs))))
    c.deref-in-Index.ensures.value (c.judge_subscripts-place.ensures p here) in
    let last = subst (λ v. IfOk c.judge-last.result (IsJudgement n (formula_of v))) c.deref-in-Index-2.ensures
    c.judge-last.ensures in
    rw e (c.of_index.ensures n whole (formula_of c.in-Index.last.value) there last)

pub judge-returns-in-Unary : goal.judge-returns-in-Unary
judge-returns-in-Unary t c =
    let at = c.in-Unary.at in
    let e = ap formula_of c.in-Unary.is ∙ formula_unary c.in-Unary.sign c.in-Unary.operand at
    ∙ ap (λ v. unary c.in-Unary.sign (formula_of v) at) (sym c.deref-in-Unary.ensures) in
    subst (λ f. IfOk c.of_unary.result (IsJudgement c.args.entries f)) (sym e)
    (c.of_unary.ensures (formula_of c.deref-in-Unary.result.now) c.judge-operand.ensures)

pub judge-returns-in-Cast : goal.judge-returns-in-Cast
judge-returns-in-Cast t c =
    let w = c.in-Cast.width in
    let at = c.in-Cast.at in
    let e = ap formula_of c.in-Cast.is ∙ formula_cast w c.in-Cast.operand at
    ∙ ap (λ v. cast w (formula_of v) at) (sym c.deref-in-Cast.ensures) in
    subst (λ f. IfOk c.of_cast.result (IsJudgement c.args.entries f)) (sym e)
    (c.of_cast.ensures c.args.entries (formula_of c.deref-in-Cast.result.now) c.judge-operand-in-Cast.ensures)

pub judge-returns-in-Binary : goal.judge-returns-in-Binary
judge-returns-in-Binary t c =
    let n = c.args.entries in
    let at = c.in-Binary.at in
    let f = formula_of c.in-Binary.left.value in
    let e = ap formula_of c.in-Binary.is ∙ formula_binary c.in-Binary.op c.in-Binary.left c.in-Binary.right at
    ∙ ap (λ v. binary c.in-Binary.op f (formula_of v) at) (sym c.deref-in-Binary-2.ensures) in
    let here = subst (λ v. IfOk c.judge-left.result (IsJudgement n (formula_of v))) c.deref-in-Binary.ensures
    c.judge-left.ensures in
    subst (λ f. IfOk c.of_binary-in-Binary.result (IsJudgement n f)) (sym e)
    (c.of_binary-in-Binary.ensures.judged f (formula_of c.deref-in-Binary-2.result.now) here c.judge-right.ensures)

pub judge-returns-in-Commas : goal.judge-returns-in-Commas
judge-returns-in-Commas t c =
    let n = c.args.entries in
    let f = formula_of c.in-Commas.first.value in
    let left = fold with_argument f (map argument_of c.in-Commas.between.items) in
    let e = ap formula_of c.in-Commas.is
    ∙ formula_commas c.in-Commas.first c.in-Commas.between c.in-Commas.last c.in-Commas.at in
    let here = subst (λ v. IfOk c.judge-first.result (IsJudgement n (formula_of v))) c.deref-in-Commas.ensures
    c.judge-first.ensures in
    let there = subst (λ gs. IfOk c.judge_arguments-left.result
    (IsJudgement n (fold with_argument f (map argument_of gs))))
    c.deref-in-Commas-2.ensures.value (c.judge_arguments-left.ensures.judged f here) in
    let last = subst (λ v. IfOk c.judge-last-in-Commas.result (IsJudgement n (formula_of v)))
    c.deref-in-Commas-3.ensures c.judge-last-in-Commas.ensures in
    rw e (c.of_binary.ensures.judged left (formula_of c.in-Commas.last.value) there last)

pub judge_subscripts-loop-subscript-preserved : goal.judge_subscripts-loop-subscript-preserved
judge_subscripts-loop-subscript-preserved t c p h =
    let n = c.args.entries in
    let l = c.loop-subscript in
    let subscript = c.subscript-item.result in
    makes_next formula_of index (λ q. IfOk l.place (IsJudgement n q))
    (λ q. IfOk c.of_index-place.result (IsJudgement n q))
    c.args.subscripts.now l.subscript-index subscript (fold index p (map formula_of c.args.subscripts.now))
    c.subscript-item.is c.loop-subscript-test.true
    (λ q judged. c.of_index-place.ensures n q (formula_of subscript) judged c.judge-subscript.ensures) (l.invariant p h)

pub judge_arguments-loop-other-preserved : goal.judge_arguments-loop-other-preserved
judge_arguments-loop-other-preserved t c =
    let n = c.args.entries in
    let l = c.loop-other in
    let other = c.other-item.result in (
      c.of_binary-arguments.ensures.limits,
      λ f h. makes_next argument_of with_argument (λ q. IfOk l.arguments (IsJudgement n q))
          (λ q. IfOk c.of_binary-arguments.result (IsJudgement n q))
          c.args.others.now l.other-index other (fold with_argument f (map argument_of c.args.others.now))
          c.other-item.is c.loop-other-test.true
          (λ q judged. c.of_binary-arguments.ensures.judged q (formula_of other.value) judged c.judge-value.ensures)
          (l.invariant.1 f h),
    )

pub judge-of_unary-requires : goal.judge-of_unary-requires
judge-of_unary-requires t c =
    judged_limits c.args.entries (formula_of c.deref-in-Unary.result.now) c.judge-operand.result c.judge-operand.ensures

pub judge-of_binary-requires-clause-left : goal.judge-of_binary-requires-clause-left
judge-of_binary-requires-clause-left t c = c.judge_arguments-left.ensures.limits

pub judge-of_binary-requires-clause-right : goal.judge-of_binary-requires-clause-right
judge-of_binary-requires-clause-right t c =
    judged_limits c.args.entries (formula_of c.deref-in-Commas-3.result.now) c.judge-last-in-Commas.result
    c.judge-last-in-Commas.ensures

pub judge-of_binary-requires-in-Binary-clause-left : goal.judge-of_binary-requires-in-Binary-clause-left
judge-of_binary-requires-in-Binary-clause-left t c =
    judged_limits c.args.entries (formula_of c.deref-in-Binary.result.now) c.judge-left.result c.judge-left.ensures

pub judge-of_binary-requires-in-Binary-clause-right : goal.judge-of_binary-requires-in-Binary-clause-right
judge-of_binary-requires-in-Binary-clause-right t c =
    judged_limits c.args.entries (formula_of c.deref-in-Binary-2.result.now) c.judge-right.result c.judge-right.ensures

pub judge_arguments-of_binary-arguments-requires-clause-left :
    goal.judge_arguments-of_binary-arguments-requires-clause-left
judge_arguments-of_binary-arguments-requires-clause-left t c = c.loop-other.invariant.0

pub judge_arguments-of_binary-arguments-requires-clause-right :
    goal.judge_arguments-of_binary-arguments-requires-clause-right
judge_arguments-of_binary-arguments-requires-clause-right t c =
    judged_limits c.args.entries (formula_of c.other-item.result.value) c.judge-value.result c.judge-value.ensures

pub judge_subscripts-loop-subscript-init : goal.judge_subscripts-loop-subscript-init
judge_subscripts-loop-subscript-init t c p h = (p, h, refl)

pub judge_subscripts-returns : goal.judge_subscripts-returns
judge_subscripts-returns t c p h =
    let l = c.loop-subscript in
    makes_whole formula_of index (λ q. IfOk l.place (IsJudgement c.args.entries q)) c.args.subscripts.now
    l.subscript-index (fold index p (map formula_of c.args.subscripts.now)) (omega arith) (l.invariant p h)

pub judge_arguments-loop-other-init : goal.judge_arguments-loop-other-init
judge_arguments-loop-other-init t c = (c.requires, λ f h. (f, h, refl))

pub judge_arguments-returns-clause-judged : goal.judge_arguments-returns-clause-judged
judge_arguments-returns-clause-judged t c f h =
    let l = c.loop-other in
    makes_whole argument_of with_argument (λ q. IfOk l.arguments (IsJudgement c.args.entries q)) c.args.others.now
    l.other-index (fold with_argument f (map argument_of c.args.others.now)) (omega arith) (l.invariant.1 f h)

pub judge_arguments-returns-clause-limits : goal.judge_arguments-returns-clause-limits
judge_arguments-returns-clause-limits t c = c.loop-other.invariant.0
