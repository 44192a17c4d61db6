use Rattle.whole_numbers.proofs.Common.{rules, ◌≡◌, ◌∙◌, ap, sym, subst, ℤ, List, pos, length, FitsSigned, Result, Ok}
use Rattle.whole_numbers.proofs.Common.{w128, to_z-of_z, Affine, form_of}
use Rattle.wide_math.specs.declared.Wide.{Wide}
use Rattle.wide_math.specs.Checked.{difference_of}
use Rattle.affine_forms.specs.Gives.{Gives}
use Rattle.checked_tableau.proofs.Tables.{written_whole}
use Rattle.pip_solver.proofs.PosedRows.{negated-err, negated-wide, negated-ok}
use Rattle.pip_solver.proofs.system_rows.negated.Goals as goal

pub returns-in-Err-oppose : goal.returns-in-Err-oppose
returns-in-Err-oppose c =
    let f = c.args.form.now in
    let is : c.deref_mut.result.now ≡ f.coefficients = search rules in
    negated-err f c.in-Err-oppose.wide (rw is at c.in-Err-oppose.ensures)

pub returns-in-Err-sub : goal.returns-in-Err-sub
returns-in-Err-sub c =
    let f = c.args.form.now in
    let is : c.deref_mut.result.now ≡ f.coefficients = search rules in
    let constant : c.constant.result ≡ f.constant = search rules in
    let fits : FitsSigned w128 c.constant.result = search rules in
    let failed = simp to_z-of_z at c.in-Err-sub.ensures in
    negated-wide f c.oppose.new.numbers c.in-Err-sub.wide (rw is at c.in-Ok-oppose.ensures)
    (ap (λ (z : ℤ). difference_of (pos 0) z) (sym constant) ∙ sym failed)

pub returns : goal.returns
returns c =
    let f = c.args.form.now in
    let is : c.deref_mut.result.now ≡ f.coefficients = search rules in
    let constant : c.constant.result ≡ f.constant = search rules in
    let fits : FitsSigned w128 c.constant.result = search rules in
    let fitted : FitsSigned w128 c.in-Ok-sub.constant = search rules in
    let made = simp to_z-of_z at c.in-Ok-sub.ensures in
    let size : length c.oppose.new.numbers ≡ length c.in-Ok.coefficients.items =
    c.oppose.auto.numbers ∙ ap (λ (zs : List ℤ). length zs) c.deref_mut.ensures.value in
    let whole = written_whole c.in-Ok.coefficients.len c.in-Ok.coefficients.items c.oppose.new.numbers (search rules)
    size in
    let run = negated-ok f c.oppose.new.numbers c.in-Ok-sub.constant (rw is at c.in-Ok-oppose.ensures)
    (ap (λ (z : ℤ). difference_of (pos 0) z) (sym constant) ∙ sym made) in
    let given = simp to_z-of_z at c.of.ensures.form in
    subst (λ (r : Result Affine Wide). Gives {X = Affine} {Y = Affine} (λ f. f) c.of.result r) (sym run)
    (subst (λ (zs : List ℤ). Gives {X = Affine} {Y = Affine} (λ f. f) c.of.result
    (Ok (form_of zs c.in-Ok-sub.constant))) (c.deref.ensures.value ∙ whole) given)
