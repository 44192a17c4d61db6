use Rattle.scop_syntax.proofs.Common.{◌∷◌, ap, subst, sym, instance_of, Instance}
use Rattle.scop_syntax.specs.declared.instance.Instance.{Instance as CodeInstance}
use Rattle.loop_tree.specs.steps.Chain.{values_in}
use Rattle.loop_tree.specs.steps.Going.{HasTurned}
use Rattle.loop_tree.specs.steps.Passing.{passed_by}
use Rattle.loop_tree.specs.SpotView.{marks_of}
use Rattle.loop_tree.specs.View.{nodes_of}
use Rattle.loop_tree.proofs.Braids.{spent_passed, turned_then}
use Rattle.loop_tree.proofs.passing.pass_more.Goals as goal

pub returns-then-is_over-clause-gone : goal.returns-then-is_over-clause-gone
returns-then-is_over-clause-gone c = λ x ms first.
    let body = nodes_of c.args.body.now in
    let ks = marks_of c.args.deeper.now in
    let params = c.args.params.now in
    let outer = values_in c.args.outer.now in
    let old = c.args.stretch.now in
    let m = c.args.mark.now in
    let then = c.pass_leaves.new in
    let js = passed_by then.stretch then.braid in
    subst (λ (i : Instance). HasTurned body x ms then.mark.value ks m.last (i ∷ js) params outer)
    (ap (λ (i : CodeInstance). instance_of i) (sym c.pass_leaves.ensures.before))
    (turned_then body x ms m.value then.mark.value m.last ks (instance_of old.before)
    (passed_by old c.args.braid.now) js params outer
    (spent_passed old c.args.braid.now (c.has_left.ensures c.if-has_left.false)) first
    c.pass_leaves.ensures.gone)
