use Rattle.wide_math.specs.Affine.{widened}
use Rattle.wide_math.proofs.Entries.{map_more, map_end}
use Rattle.affine_forms.proofs.lists.push_widened.Goals as goal

pub loop-form-preserved : goal.loop-form-preserved
loop-form-preserved c =
    let l = c.loop-form in
    map_more (widened c.args.place) c.args.forms.now l.form-index c.form-item.result c.in_ok-wide.wide l.out.items
    c.push.new.list.items _ c.loop-form-test.true c.form-item.is c.in_ok-wide.ensures c.in_ok-push.ensures.pushed
    l.invariant

pub returns : goal.returns
returns c =
    let l = c.loop-form in
    map_end (widened c.args.place) c.args.forms.now l.form-index l.out.items _ c.loop-form-test.false l.invariant
