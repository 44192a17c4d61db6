use Rattle.quast_joins.proofs.Common.{rules, ◌≡◌, ◌+◌, ◌∙◌, fold, capped, join_node, most_told}
use Rattle.quast_joins.proofs.Counts.{counted}
use Rattle.quast_joins.proofs.count.count_nodes.Goals as goal

pub returns : goal.returns
returns c =
    let nodes = c.args.first.now in
    let total : c.fold.result
    ≡ fold (λ s x. capped most_told (s + capped most_told (join_node c.args.second.now x))) 0 nodes = search rules in
    total ∙ counted (join_node c.args.second.now) most_told nodes
