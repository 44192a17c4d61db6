use Rattle.scop_syntax.proofs.Common.{◌∙◌, [], IfSome_then, instance_of}
use Rattle.loop_tree.specs.steps.Chain.{values_in}
use Rattle.loop_tree.specs.View.{nodes_of}
use Rattle.loop_tree.specs.declared.outer.Outer.TheVariants.{Row}
use Rattle.loop_tree.proofs.Chains.{values_row}
use Rattle.loop_tree.proofs.LeavingMarks.{waits_there}
use Rattle.loop_tree.proofs.leaving.last_nodes.Goals as goal

pub returns : goal.returns
returns c =
    let params = c.args.params.now in
    let at = c.within_of-at in
    let outer = c.split_at-2 in
    IfSome_then c.rest_nodes.new.visitor.instance (c.rest_nodes.ensures [] tt)
    (λ i h.
    waits_there (nodes_of c.args.nodes.now) at.result.nodes.now c.args.marks.now c.split_at.result.1.now params
    at.new.row (values_in (Row outer.result.0)) at.result.depth (at.ensures.leads params c.requires)
    c.split_at.ensures.back (values_row outer.result.0 ∙ outer.ensures.front) (instance_of i) h)
