use Rattle.conflict_deps.proofs.Common.{map_more, map_end, target_form}
use Rattle.conflict_deps.proofs.forms.push_targets.Goals as goal

pub loop-form-preserved : goal.loop-form-preserved
loop-form-preserved c =
    let l = c.loop-form in
    map_more (target_form c.args.loops) c.args.forms.now l.form-index c.form-item.result c.in_ok-shifted.shifted
    l.out.items c.push.new.list.items _ c.loop-form-test.true c.form-item.is c.in_ok-shifted.ensures
    c.in_ok-push.ensures.pushed l.invariant

pub returns : goal.returns
returns c =
    let l = c.loop-form in
    map_end (target_form c.args.loops) c.args.forms.now l.form-index l.out.items _ c.loop-form-test.false
    l.invariant
