use Rattle.tree_simplification.proofs.Common.{◌≡◌, rules, refl, variables_of, IsOver, side_form, at_least, test_of}
use Rattle.tree_simplification.specs.steps.Rounded.{rounded_test}
use Rattle.tree_simplification.proofs.Heads.{side_more}
use Rattle.tree_simplification.proofs.single.once.push_side.Goals as goal

pub loop-part-preserved : goal.loop-part-preserved
loop-part-preserved c = λ old first.
    let over : IsOver (variables_of c.args.form.now) c.part-item.result.form = search rules in
    let is : test_of c.in_ok-rounded_at_least.field-0
    ≡ rounded_test (at_least (side_form c.args.turned c.args.form.now c.part-item.result)) = search rules in
    side_more (variables_of c.args.form.now) c.args.turned c.args.form.now old c.args.parts.now
    c.loop-part.part-index c.part-item.result c.in_ok-rounded_at_least.field-0 c.loop-part.tests.items
    c.push_test.new.tests.items c.part-item.is c.loop-part-test.true (c.loop-part.invariant old first) refl over
    is c.in_ok-rounded_at_least.ensures.small c.in_ok-push_test.ensures
