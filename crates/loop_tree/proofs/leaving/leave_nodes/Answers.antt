use Rattle.scop_syntax.proofs.Common.{◌∙◌, [], refl, IfSome_then}
use Rattle.loop_tree.specs.steps.Chain.{values_in}
use Rattle.loop_tree.specs.Spot.{rest_of}
use Rattle.loop_tree.specs.SpotView.{marks_of}
use Rattle.loop_tree.specs.View.{nodes_of}
use Rattle.loop_tree.specs.declared.outer.Outer.TheVariants.{Row}
use Rattle.loop_tree.proofs.Chains.{values_row}
use Rattle.loop_tree.proofs.LeavingMarks.{gone_by_all}
use Rattle.loop_tree.proofs.leaving.leave_nodes.Goals as goal

pub returns-clause-left : goal.returns-clause-left
returns-clause-left c =
    let params = c.args.params.now in
    let inner = c.split_at_mut-inner in
    let outer = c.split_at in
    let us = nodes_of c.within_of-at.result.nodes.now in
    let values = values_in (Row outer.result.0) in
    let found = rest_of us (marks_of inner.result.1.now) params values in
    let gone = gone_by_all (nodes_of c.args.nodes.now) us c.args.marks.now inner.result.0.now inner.result.1.now
    c.pass_all.new.marks params c.within_of-at.new.row values c.within_of-at.result.depth
    (c.within_of-at.ensures.leads params c.requires) inner.ensures.front inner.ensures.back
    (values_row outer.result.0 ∙ outer.ensures.front)
    c.pass_all.ensures.room c.pass_all.ensures.rest c.pass_all.ensures.stands in
    IfSome_then c.passed_in.result (c.passed_in.ensures found (c.rest_nodes.ensures [] refl))
    (λ p run. record { part = found; run = run; split = gone.rest })

pub returns-clause-stands : goal.returns-clause-stands
returns-clause-stands c =
    let params = c.args.params.now in
    let inner = c.split_at_mut-inner in
    let outer = c.split_at in
    (gone_by_all (nodes_of c.args.nodes.now) (nodes_of c.within_of-at.result.nodes.now) c.args.marks.now
    inner.result.0.now inner.result.1.now c.pass_all.new.marks params c.within_of-at.new.row outer.result.0.now
    c.within_of-at.result.depth (c.within_of-at.ensures.leads params c.requires) inner.ensures.front
    inner.ensures.back outer.ensures.front c.pass_all.ensures.room c.pass_all.ensures.rest
    c.pass_all.ensures.stands).stands
