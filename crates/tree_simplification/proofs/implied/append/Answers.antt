use Rattle.tree_simplification.proofs.Common.{◌++◌, ap, ◌∙◌, on_ok_weaker, nodes_of}
use Rattle.tree_simplification.proofs.JoinedTrees.{nodes_joined}
use Rattle.tree_simplification.proofs.Trees.{left_at_ok}
use Rattle.tree_simplification.proofs.implied.append.Goals as goal

pub returns : goal.returns
returns c =
    let old = c.args.nodes.now.items in
    let behind = c.args.more.items in
    on_ok_weaker c.append.result (λ e. ap nodes_of e ∙ nodes_joined old behind)
    (left_at_ok c.append.result c.append.new.self.items (old ++ behind) old c.append.ensures.items)
