use Rattle.whole_numbers.proofs.Common.{length, rules, FitsSigned, sym, ap, subst, ◌∙◌, w128, to_z-of_z}
use Rattle.affine_forms.specs.Gives.{Fails}
use Rattle.affine_forms.specs.Runs.{value_run}
use Rattle.quast_trees.proofs.ListRuns.{each_done, each_fails, each_more, each_start}
use Rattle.quast_trees.proofs.value.values_at.Goals as goal

pub loop-form-init : goal.loop-form-init
loop-form-init c =
    each_start (λ f. value_run f c.args.point.now) c.args.forms.now c.in-Ok.values.items c.in-Ok.ensures.items

pub value_at-requires : goal.value_at-requires
value_at-requires c =
    sym (ap (λ f. length f.coefficients) c.form-item.is
    ∙ c.requires c.loop-form.form-index c.form-item.result c.loop-form-test.true)

pub returns-in-Err-value_at : goal.returns-in-Err-value_at
returns-in-Err-value_at c =
    let point = c.args.point.now in
    let run = subst (λ f. Fails c.in-Err-value_at.stop (value_run f point)) c.form-item.is
    c.in-Err-value_at.ensures.run in
    each_fails (λ f. value_run f point) c.args.forms.now c.loop-form.form-index c.loop-form.values.items
    c.form-item.result c.in-Err-value_at.stop c.loop-form-test.true c.loop-form.invariant run

pub loop-form-preserved : goal.loop-form-preserved
loop-form-preserved c =
    let point = c.args.point.now in
    let value = c.in-Ok-value_at.value in
    let fits : FitsSigned w128 value = search rules in
    let pushed = simp to_z-of_z at c.in-Ok-push.ensures.items in
    let run = ap (λ f. value_run f point) (sym c.form-item.is) ∙ c.in-Ok-value_at.ensures.run in
    each_more (λ f. value_run f point) c.args.forms.now c.loop-form.form-index c.loop-form.values.items
    c.push.new.self.items c.form-item.result value c.loop-form-test.true c.loop-form.invariant run pushed

pub returns : goal.returns
returns c =
    each_done (λ f. value_run f c.args.point.now) c.args.forms.now c.loop-form.form-index c.loop-form.values.items
    c.loop-form-test.false c.loop-form.invariant
