use Rattle.scop_syntax.proofs.Common.{map_end, map_more}
use Rattle.scop_units.specs.Units.{padded}
use Rattle.scop_units.proofs.padding.padded_all.Goals as goal

pub loop-form-preserved : goal.loop-form-preserved
loop-form-preserved c =
    map_more (padded c.args.count) c.args.forms.now c.loop-form.form-index c.form-item.result c.in_ok-next.next
    c.loop-form.made.items c.push.new.self.items _ c.loop-form-test.true c.form-item.is c.in_ok-next.ensures
    c.in_ok-push.ensures.items c.loop-form.invariant

pub returns : goal.returns
returns c =
    map_end (padded c.args.count) c.args.forms.now c.loop-form.form-index c.loop-form.made.items _
    c.loop-form-test.false c.loop-form.invariant
