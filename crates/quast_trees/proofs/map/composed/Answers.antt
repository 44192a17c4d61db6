use Rattle.whole_numbers.proofs.Common.{length, sym, ap, subst, ◌∙◌}
use Rattle.affine_forms.specs.Gives.{Fails}
use Rattle.affine_forms.specs.Runs.{compose_run}
use Rattle.quast_trees.proofs.ListRuns.{each_done, each_fails, each_more, each_start}
use Rattle.quast_trees.proofs.map.composed.Goals as goal

pub loop-form-preserved : goal.loop-form-preserved
loop-form-preserved c =
    let inner = c.args.inner.now in
    let run = ap (λ f. compose_run f inner c.args.variables) (sym c.form-item.is) ∙ c.in-Ok-compose.ensures.run in
    each_more (λ f. compose_run f inner c.args.variables) c.args.forms.now c.loop-form.form-index
    c.loop-form.composed.items c.push.new.list.items c.form-item.result c.in-Ok-compose.form c.loop-form-test.true
    c.loop-form.invariant run c.in-Ok-push.ensures.pushed

pub loop-form-init : goal.loop-form-init
loop-form-init c =
    each_start (λ f. compose_run f c.args.inner.now c.args.variables) c.args.forms.now c.in-Ok.composed.items
    c.in-Ok.ensures.items

pub compose-requires-clause-inner : goal.compose-requires-clause-inner
compose-requires-clause-inner c =
    sym (ap (λ f. length f.coefficients) c.form-item.is
    ∙ c.requires.forms c.loop-form.form-index c.form-item.result c.loop-form-test.true)

pub compose-requires-clause-variables : goal.compose-requires-clause-variables
compose-requires-clause-variables c = c.requires.inner

pub returns-in-Err-compose : goal.returns-in-Err-compose
returns-in-Err-compose c =
    let inner = c.args.inner.now in
    let run = subst (λ f. Fails c.in-Err-compose.stop (compose_run f inner c.args.variables)) c.form-item.is
    c.in-Err-compose.ensures.run in
    each_fails (λ f. compose_run f inner c.args.variables) c.args.forms.now c.loop-form.form-index
    c.loop-form.composed.items c.form-item.result c.in-Err-compose.stop c.loop-form-test.true c.loop-form.invariant run

pub returns : goal.returns
returns c =
    each_done (λ f. compose_run f c.args.inner.now c.args.variables) c.args.forms.now c.loop-form.form-index
    c.loop-form.composed.items c.loop-form-test.false c.loop-form.invariant
