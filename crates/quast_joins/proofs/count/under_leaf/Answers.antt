use Rattle.quast_joins.proofs.Common.{rules, ◌≡◌, ◌+◌, ◌∙◌, fold, capped, under_node, most_told}
use Rattle.quast_joins.proofs.Counts.{counted}
use Rattle.quast_joins.proofs.count.under_leaf.Goals as goal

pub returns : goal.returns
returns c =
    let nodes = c.args.nodes.now in
    let total : c.fold.result
    ≡ fold (λ s x. capped most_told (s + capped most_told (under_node c.args.leaf.now x))) 0 nodes = search rules in
    total ∙ counted (under_node c.args.leaf.now) most_told nodes
