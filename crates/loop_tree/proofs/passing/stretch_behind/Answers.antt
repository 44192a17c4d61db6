use Rattle.scop_syntax.proofs.Common.{rules, ◌≡◌, length}
use Rattle.loop_tree.specs.steps.Chain.{values_in}
use Rattle.loop_tree.specs.declared.stretch.Stretch.{Stretch}
use Rattle.loop_tree.proofs.Stretches.{stretch_is}
use Rattle.loop_tree.proofs.passing.stretch_behind.Goals as goal

pub returns-clause-rest : goal.returns-clause-rest
returns-clause-rest c = λ params x is.
    let leaf = c.args.leaf.now in
    let s : Stretch =
    record { before = c.args.before; steps = c.steps_within-steps.result; left = c.args.left } in
    let whole : length c.args.before.turns ≡ 5 = search rules in
    stretch_is s leaf.statement leaf.turns.items c.as_slice.result.now params (values_in c.args.outer.now) x whole
    c.as_slice.ensures.value is c.steps_within-steps.ensures
