use Rattle.tree_simplification.proofs.Common.{rules, nodes_of, trees_in, outside, TrimsAll}
use Rattle.tree_simplification.proofs.TrimmedTrees.{trimmed_is}
use Rattle.tree_simplification.proofs.implied.without_implied.Goals as goal

pub returns : goal.returns
returns c =
    let nodes = nodes_of c.in_ok-nodes.nodes.items in
    let trimmed : TrimsAll (outside c.args.parameters) (trees_in c.args.tree.now) nodes = search rules in
    trimmed_is c.args.parameters (trees_in c.args.tree.now) nodes c.requires.flat c.requires.over trimmed
