use Rattle.dataflow.proofs.Common.{◌++◌, ◌^◌, ◌≤◌, arith, map, subst, sym, Affine, composed, CanCompose, form_size}
use Rattle.dataflow.proofs.Common.{flat}
use Rattle.dataflow.proofs.Lists.{composed_small, flat_put, one_at}
use Rattle.dataflow.proofs.forms.push_flat.Goals as goal

pub push_both-requires : goal.push_both-requires
push_both-requires c =
    let n = c.args.of in
    let inner = c.args.inner.now in
    let can = one_at (CanCompose n inner) c.args.forms.now c.loop-form.form-index c.form-item.result c.requires
    c.form-item.is (omega arith) in
    subst (λ (f : Affine). form_size f ≤ 2 ^ 100) (sym c.in_ok-composition.ensures.form)
    (composed_small n inner c.form-item.result can)

pub loop-form-preserved : goal.loop-form-preserved
loop-form-preserved c =
    let n = c.args.of in
    let inner = c.args.inner.now in
    flat_put (λ f. composed f inner n) c.loop-form.out.items c.push_both.new.out.items
    (c.args.out.now.items ++ flat (map (λ f. composed f inner n) c.args.forms.now)) c.args.forms.now
    c.loop-form.form-index c.form-item.result c.in_ok-composition.composition c.form-item.is (omega arith)
    c.loop-form.invariant c.in_ok-composition.ensures.form c.in_ok-push_both.ensures
