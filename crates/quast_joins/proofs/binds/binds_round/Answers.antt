use Rattle.whole_numbers.proofs.Common.{rules, ◌≡◌, [], ◌∷◌, drop, ap, sym, ◌∙◌, append-nil, reverse}
use Rattle.quast_trees.specs.Postfix.{tree_of}
use Rattle.quast_joins.specs.Steps.{Depths, depths, depths_of, from_last}
use Rattle.quast_joins.proofs.Steps.{depths_found}
use Rattle.quast_joins.proofs.binds.binds_round.Goals as goal

pub returns : goal.returns
returns c =
    let t = tree_of c.args.quast.now in
    let nodes = c.nodes-nodes.result.now in
    let start = depths_of (0 ∷ []) [] in
    let zero : c.loop-at.at ≡ 0 = search rules in
    let so_far = ap (λ ns. from_last ns start) (sym c.nodes-nodes.ensures.nodes)
    ∙ (ap (λ i. from_last (drop i nodes) start) (sym zero) ∙ c.loop-at.invariant.1) in
    let found = ap (λ (d : Depths). d.found) (sym (depths_found t 0 [] []) ∙ so_far) in
    let turned : c.reverse.new.self.items ≡ reverse c.loop-at.found.items = search rules in
    turned ∙ (sym found ∙ append-nil (depths 0 t))
