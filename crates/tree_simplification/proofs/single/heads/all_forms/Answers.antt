use Rattle.scop_syntax.proofs.Common.{◌^◌, length, subst, sym, Affine, All, All-push, composed, map_end, map_more}
use Rattle.loop_tree.specs.Shape.{IsOver, IsUpTo}
use Rattle.tree_simplification.proofs.single.heads.all_forms.Goals as goal

pub composition-requires-clause-count : goal.composition-requires-clause-count
composition-requires-clause-count c =
    subst (IsOver (length c.args.forms.now)) (sym c.form-item.is)
    (c.requires.count c.loop-form.form-index c.form-item.result c.loop-form-test.true)

pub loop-form-preserved : goal.loop-form-preserved
loop-form-preserved c =
    let made = c.in_ok-composition in
    let pushed = c.in_ok-push.ensures.pushed in (
      map_more (λ (f : Affine). composed f c.args.forms.now c.args.variables) c.args.old.now c.loop-form.form-index
          c.form-item.result made.field-0 c.loop-form.all.items c.push.new.list.items _ c.loop-form-test.true
          c.form-item.is made.ensures.form pushed c.loop-form.invariant.0,
      subst (All (IsUpTo (2 ^ 45))) (sym pushed)
          (All-push (IsUpTo (2 ^ 45)) c.loop-form.all.items made.field-0 c.loop-form.invariant.1 made.ensures.small),
    )

pub returns-clause-forms : goal.returns-clause-forms
returns-clause-forms c =
    map_end (λ (f : Affine). composed f c.args.forms.now c.args.variables) c.args.old.now c.loop-form.form-index
    c.loop-form.all.items _ c.loop-form-test.false c.loop-form.invariant.0
