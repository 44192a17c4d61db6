use Rattle.scop_syntax.proofs.Common.{◌∙◌, take}
use Rattle.loop_tree.specs.steps.Chain.{values_in}
use Rattle.loop_tree.specs.steps.Passing.{shown_in}
use Rattle.loop_tree.specs.View.{nodes_of}
use Rattle.loop_tree.specs.declared.outer.Outer.TheVariants.{Row}
use Rattle.loop_tree.proofs.Chains.{values_row}
use Rattle.loop_tree.proofs.LeavingMarks.{can_within, gone_within}
use Rattle.loop_tree.proofs.spot.next_near.Goals as goal

pub next_of-requires-clause-go : goal.next_of-requires-clause-go
next_of-requires-clause-go c =
    let params = c.args.params.now in
    let near = c.near_of-near in
    let inner = c.split_at_mut-inner in
    let outer = c.split_at in
    can_within (nodes_of near.result.nodes.now) c.args.marks.now inner.result.1.now params
    (take near.result.depth near.new.row) (values_in (Row outer.result.0)) near.result.depth inner.ensures.back
    (values_row outer.result.0 ∙ outer.ensures.front) (near.ensures.leads params c.requires.go).can

pub returns-clause-gone : goal.returns-clause-gone
returns-clause-gone c =
    let params = c.args.params.now in
    let near = c.near_of-near in
    let inner = c.split_at_mut-inner in
    let outer = c.split_at in
    let new = c.next_of.new in
    gone_within (nodes_of c.args.nodes.now) (nodes_of near.result.nodes.now) c.args.marks.now inner.result.0.now
    inner.result.1.now new.marks (shown_in c.next_of.result new.stretch new.braid) params near.new.row
    (values_in (Row outer.result.0)) near.result.depth (near.ensures.leads params c.requires.go) inner.ensures.front
    inner.ensures.back (values_row outer.result.0 ∙ outer.ensures.front) c.next_of.ensures.gone
