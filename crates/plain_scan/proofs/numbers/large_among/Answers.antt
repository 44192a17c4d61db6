use Rattle.scop_syntax.proofs.Common.{rules, refl, subst, All, FitsSigned, w128, to_z-of_z, member_at, all_next}
use Rattle.plain_scan.specs.Between.{HasSmallNumbers, IsLargeAmong}
use Rattle.plain_scan.proofs.CodeBounds.{take_all}
use Rattle.plain_scan.proofs.numbers.large_among.Goals as goal

pub returns-in-Some-clause-some : goal.returns-in-Some-clause-some
returns-in-Some-clause-some c =
    let z = c.in-Some.number in
    let f = c.form-item.result in
    let fs = c.args.forms.now in
    let fits : FitsSigned w128 z = search rules in
    let large : IsLargeAmong fs z =
    (f, member_at fs c.loop-form.form-index f c.form-item.is c.loop-form-test.true, c.in-Some.ensures.some) in
    simp to_z-of_z large

pub loop-form-preserved : goal.loop-form-preserved
loop-form-preserved c =
    all_next HasSmallNumbers c.args.forms.now c.loop-form.form-index c.form-item.result c.form-item.is
    c.loop-form-test.true c.loop-form.invariant (c.in-None.ensures.none refl)

pub returns-clause-none : goal.returns-clause-none
returns-clause-none c e =
    subst (All HasSmallNumbers) (take_all c.args.forms.now c.loop-form.form-index c.loop-form-test.false)
    c.loop-form.invariant
