use Rattle.whole_numbers.proofs.Common.{length, subst, sym, ap, ◌∙◌, arith, All-get_or, All-same}
use Rattle.affine_forms.specs.Gives.{Fails}
use Rattle.quast_trees.specs.Postfix.{tree_of}
use Rattle.quast_trees.specs.Mapped.{SuitsNode, node_run}
use Rattle.quast_trees.specs.Tree.{Speaks}
use Rattle.quast_trees.specs.declared.node.Node.{Node}
use Rattle.quast_trees.proofs.ListRuns.{each_more, each_start}
use Rattle.quast_trees.proofs.QuastNodes.{quast_of_tree, tree_of_held}
use Rattle.quast_trees.proofs.MappedTrees.{suits_written, maps_to, map_stops, map_run-speaks, map_run-value}
use Rattle.quast_trees.proofs.quast.Quast.map.Goals as goal

pub loop-node-init : goal.loop-node-init
loop-node-init c =
    each_start (node_run c.args.forms.now) c.nodes-nodes.result.now c.in-Ok.mapped.items c.in-Ok.ensures.items

pub loop-node-preserved : goal.loop-node-preserved
loop-node-preserved c =
    let forms = c.args.forms.now in
    let run = ap (λ (x : Node). node_run forms x) (sym c.node-item.is) ∙ c.in-Ok-mapped_node.ensures in
    each_more (node_run forms) c.nodes-nodes.result.now c.loop-node.node-index c.loop-node.mapped.items
    c.push.new.list.items c.node-item.result c.in-Ok-mapped_node.node c.loop-node-test.true c.loop-node.invariant run
    c.in-Ok-push.ensures.pushed

pub mapped_node-requires : goal.mapped_node-requires
mapped_node-requires c =
    let forms = c.args.forms.now in
    let nodes = c.nodes-nodes.result.now in
    let item = c.node-item.result in
    let all = suits_written forms c.args.self.now.parameters
    (tree_of c.args.self.now) c.nodes-nodes.ensures.speaks c.requires in
    let each = All-same (SuitsNode forms) nodes _ c.nodes-nodes.ensures.nodes all in
    subst (SuitsNode forms) (sym c.node-item.is) (All-get_or (SuitsNode forms) nodes c.loop-node.node-index item
    (omega arith) each)

pub returns-in-Err-mapped_node-clause-run : goal.returns-in-Err-mapped_node-clause-run
returns-in-Err-mapped_node-clause-run c =
    let forms = c.args.forms.now in
    let item = c.node-item.result in
    let f = subst (λ (x : Node). Fails c.in-Err-mapped_node.stop (node_run forms x)) c.node-item.is
    c.in-Err-mapped_node.ensures in
    map_stops forms (tree_of c.args.self.now) c.nodes-nodes.result.now c.loop-node.mapped.items
    c.loop-node.node-index item c.in-Err-mapped_node.stop c.nodes-nodes.ensures.nodes (omega arith)
    c.loop-node.invariant f

pub of_nodes-requires : goal.of_nodes-requires
of_nodes-requires c =
    let m = maps_to c.args.forms.now (tree_of c.args.self.now) c.nodes-nodes.result.now c.loop-node.mapped.items
    c.loop-node.node-index c.nodes-nodes.ensures.nodes (omega arith) c.loop-node.invariant in
    let s : Speaks c.parameters.result (tree_of c.args.self.now) =
    rw c.parameters.ensures c.nodes-nodes.ensures.speaks in
    quast_of_tree c.parameters.result m.tree c.loop-node.mapped.items m.spelled
    (map_run-speaks c.args.forms.now c.parameters.result (tree_of c.args.self.now) m.tree s m.run)

pub returns-clause-run : goal.returns-clause-run
returns-clause-run c =
    let m = maps_to c.args.forms.now (tree_of c.args.self.now) c.nodes-nodes.result.now c.loop-node.mapped.items
    c.loop-node.node-index c.nodes-nodes.ensures.nodes (omega arith) c.loop-node.invariant in
    rw (c.of_nodes.ensures, tree_of_held c.parameters.result m.tree c.loop-node.mapped.items m.spelled) m.run

pub returns-clause-value : goal.returns-clause-value
returns-clause-value c = λ point fits.
    let m = maps_to c.args.forms.now (tree_of c.args.self.now) c.nodes-nodes.result.now c.loop-node.mapped.items
    c.loop-node.node-index c.nodes-nodes.ensures.nodes (omega arith) c.loop-node.invariant in
    let s : Speaks (length point) (tree_of c.args.self.now) = rw fits c.nodes-nodes.ensures.speaks in
    rw (c.of_nodes.ensures, tree_of_held c.parameters.result m.tree c.loop-node.mapped.items m.spelled)
    (map_run-value c.args.forms.now (tree_of c.args.self.now) m.tree point s m.run)
