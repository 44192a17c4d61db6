use Rattle.scop_syntax.proofs.Common.{length, sym, subst, map_more, map_end}
use Rattle.iteration_domains.specs.Outside.{fixed}
use Rattle.iteration_domains.specs.Sizes.{IsNarrow}
use Rattle.iteration_domains.proofs.FixedForms.{can_fix}
use Rattle.iteration_domains.proofs.outside.fixed_rows.Goals as goal

pub compose_form-requires : goal.compose_form-requires
compose_form-requires c =
    can_fix c.args.turns c.args.forms.now c.row-item.result c.requires.forms
    (subst (IsNarrow (length c.args.forms.now)) (sym c.row-item.is)
    (c.requires.rows c.loop-row.row-index c.row-item.result c.loop-row-test.true))

pub loop-row-preserved : goal.loop-row-preserved
loop-row-preserved c =
    map_more (fixed c.args.turns c.args.forms.now) c.args.rows.now c.loop-row.row-index c.row-item.result
    c.in_ok-form.form c.loop-row.out.items c.push.new.list.items _ c.loop-row-test.true c.row-item.is
    c.in_ok-form.ensures.form c.in_ok-push.ensures.pushed c.loop-row.invariant

pub returns : goal.returns
returns c =
    map_end (fixed c.args.turns c.args.forms.now) c.args.rows.now c.loop-row.row-index c.loop-row.out.items _
    c.loop-row-test.false c.loop-row.invariant
