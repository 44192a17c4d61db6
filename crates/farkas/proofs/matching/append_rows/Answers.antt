use Rattle.whole_numbers.proofs.Common.{rules, ◌≡◌, ◌∙◌, sym, ap, subst, arith, ◌+◌, drop, ℤ, List, pos, FitsSigned}
use Rattle.whole_numbers.proofs.Common.{Result, Ok, Affine, w128, to_z-of_z}
use Rattle.std.proofs.lemmas.List.{append-nil}
use Rattle.std.proofs.Math.ListN.{drop_of_length-le}
use Rattle.affine_forms.specs.Parts.{variables_of}
use Rattle.wide_math.specs.declared.Wide.{Wide}
use Rattle.wide_math.specs.Checked.{difference_of}
use Rattle.farkas.specs.Matching.{HasEntry, row_columns_run}
use Rattle.farkas.specs.steps.Questions.{with_more}
use Rattle.farkas.proofs.Steps.{with_more-err, row_stop, row_more}
use Rattle.farkas.proofs.matching.append_rows.Goals as goal

pub returns-in-Err : goal.returns-in-Err
returns-in-Err c =
    let e = c.args.entry in
    let rows = c.args.rows.now in
    let fits : FitsSigned w128 c.number.result = search rules in
    let failed = simp to_z-of_z at (sym c.sub.ensures ∙ c.in-Err.is) in
    let stops = row_stop e rows c.loop-form.form-index c.form-item.result c.in-Err.wide (omega arith) c.form-item.is
    (sym (ap (λ (z : ℤ). difference_of (pos 0) z) c.number.ensures) ∙ failed) in
    with_more-err c.args.numbers.now.items (row_columns_run e rows) c.in-Err.wide
    (sym c.loop-form.invariant ∙ ap (λ (r : Result (List ℤ) Wide). with_more c.loop-form.numbers.items r) stops)

pub loop-form-preserved : goal.loop-form-preserved
loop-form-preserved c =
    let e = c.args.entry in
    let rows = c.args.rows.now in
    let i = c.loop-form.form-index in
    let front = c.loop-form.numbers.items in
    let b = c.in-Ok.opposite in
    let fits : FitsSigned w128 c.number.result = search rules in
    let fits_b : FitsSigned w128 c.in-Ok.opposite = search rules in
    let made = simp to_z-of_z at (sym c.sub.ensures ∙ c.in-Ok.is) in
    let pushed = simp to_z-of_z at c.in-Ok-push.ensures.items in
    let all = with_more c.args.numbers.now.items (row_columns_run e rows) in
    subst (λ (zs : List ℤ). with_more zs (row_columns_run e (drop (i + 1) rows)) ≡ all) (sym pushed)
    (row_more e rows i c.form-item.result b front all (omega arith) c.form-item.is
    (sym (ap (λ (z : ℤ). difference_of (pos 0) z) c.number.ensures) ∙ made) c.loop-form.invariant)

pub number-requires : goal.number-requires
number-requires c =
    subst (λ (f : Affine). HasEntry c.args.entry (variables_of f)) (sym c.form-item.is)
    (c.requires c.loop-form.form-index c.form-item.result (omega arith))

pub returns : goal.returns
returns c =
    let numbers = c.loop-form.numbers.items in
    sym c.loop-form.invariant
    ∙ ap (λ (fs : List Affine). with_more numbers (row_columns_run c.args.entry fs))
    (drop_of_length-le c.args.rows.now (omega arith))
    ∙ ap (λ (zs : List ℤ). Ok zs) (append-nil numbers)
