use Rattle.whole_numbers.proofs.Common.{rules, ◌≡◌, map, length, ap, ◌∙◌, length-map}
use Rattle.quast_trees.specs.Source.{source_of}
use Rattle.quast_trees.specs.Tree.{named, Speaks}
use Rattle.quast_trees.specs.Postfix.{tree_of, named_node, written}
use Rattle.quast_trees.proofs.QuastNodes.{quast_of_tree, tree_of_held}
use Rattle.quast_trees.proofs.NamedTrees.{named-written, named-speaks, refilled}
use Rattle.quast_trees.proofs.quast.Quast.named.Goals as goal

pub of_nodes-requires : goal.of_nodes-requires
of_nodes-requires c =
    let s = source_of c.args.statement c.args.loops.now in
    let t = tree_of c.args.self in
    let old = c.into_nodes-parameters.result.1.items in
    let spelled : old ≡ written t = search rules in
    let parameters : c.into_nodes-parameters.result.0 ≡ c.args.self.parameters = search rules in
    let speaks : Speaks c.into_nodes-parameters.result.0 t = rw parameters c.into_nodes-parameters.ensures.speaks in
    let new : c.name_nodes.new.nodes ≡ map (named_node s) old = search rules in
    let sized : length c.name_nodes.new.nodes ≡ length old = ap length new ∙ length-map old (named_node s) in
    let len : c.into_nodes-parameters.result.1.len ≡ length old = search rules in
    let filled = refilled c.into_nodes-parameters.result.1.len old c.name_nodes.new.nodes len sized in
    quast_of_tree c.into_nodes-parameters.result.0 (named s t) _
    (filled ∙ new ∙ ap (map (named_node s)) spelled ∙ named-written s t)
    (named-speaks s c.into_nodes-parameters.result.0 t speaks)

pub returns-in-Ok-clause-tree : goal.returns-in-Ok-clause-tree
returns-in-Ok-clause-tree c =
    let s = source_of c.args.statement c.args.loops.now in
    let t = tree_of c.args.self in
    let old = c.into_nodes-parameters.result.1.items in
    let spelled : old ≡ written t = search rules in
    let new : c.name_nodes.new.nodes ≡ map (named_node s) old = search rules in
    let sized : length c.name_nodes.new.nodes ≡ length old = ap length new ∙ length-map old (named_node s) in
    let len : c.into_nodes-parameters.result.1.len ≡ length old = search rules in
    let filled = refilled c.into_nodes-parameters.result.1.len old c.name_nodes.new.nodes len sized in
    rw c.of_nodes.ensures
    (tree_of_held c.into_nodes-parameters.result.0 (named s t) _
    (filled ∙ new ∙ ap (map (named_node s)) spelled ∙ named-written s t))
