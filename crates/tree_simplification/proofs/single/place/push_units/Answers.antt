use Rattle.tree_simplification.proofs.Common.{◌-◌, ◌++◌, variables}
use Rattle.loop_tree.proofs.Placings.{units_step}
use Rattle.tree_simplification.proofs.single.place.push_units.Goals as goal

pub loop-at-preserved : goal.loop-at-preserved
loop-at-preserved c =
    let of = c.args.of in
    units_step c.loop-at.forms.items c.push.new.list.items
    (c.args.forms.now.items ++ variables of c.args.from (of - c.args.from)) c.in_ok-variable_form.field-0 of of c.loop-at.at
    c.loop-at-test.true c.loop-at.invariant c.in_ok-variable_form.ensures c.in_ok-push.ensures.pushed
