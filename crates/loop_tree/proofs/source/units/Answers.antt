use Rattle.iteration_domains.specs.Rows.{variables}
use Rattle.loop_tree.proofs.Placings.{units_step}
use Rattle.loop_tree.proofs.source.units.Goals as goal

pub loop-at-preserved : goal.loop-at-preserved
loop-at-preserved c =
    units_step c.loop-at.forms.items c.push.new.list.items (variables c.args.of 0 c.args.count) c.in_ok-unit.field-0
    c.args.of c.args.count c.loop-at.at c.loop-at-test.true c.loop-at.invariant c.in_ok-unit.ensures
    c.in_ok-push.ensures.pushed
