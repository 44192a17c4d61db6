use Rattle.tree_simplification.proofs.Common.{◌≡◌, ap, subst, sym, ◌∙◌, In, member_at, Bound}
use Rattle.tree_simplification.specs.steps.Inlined.{whole}
use Rattle.tree_simplification.proofs.single.once.shared_form.Goals as goal

pub returns-then-is_shared : goal.returns-then-is_shared
returns-then-is_shared c =
    let part = c.part-item.result in
    let shared = c.is_shared.ensures c.if-is_shared.true in
    let own : c.in_ok-wide_form.field-0 ≡ part.form = c.in_ok-wide_form.ensures ∙ ap (λ (b : Bound). b.form) c.part.view_is in
    let is : part ≡ whole c.in_ok-wide_form.field-0 = shared.0 ∙ ap whole (sym own) in (
      subst (λ (b : Bound). In b c.args.lows.now) is
          (member_at c.args.lows.now c.loop-part.part-index part c.part-item.is c.loop-part-test.true),
      subst (λ (b : Bound). In b c.args.ups.now) is shared.1,
    )
