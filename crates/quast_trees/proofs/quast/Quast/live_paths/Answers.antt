use Rattle.whole_numbers.proofs.Common.{rules, ◌≡◌, [], ◌∷◌, drop, ap, sym, ◌∙◌, Some, reverse}
use Rattle.quast_trees.specs.Postfix.{tree_of}
use Rattle.quast_trees.specs.steps.Ways.{Ways, ways_from_last, ways_of}
use Rattle.quast_trees.proofs.FoundPaths.{found_from_root}
use Rattle.quast_trees.proofs.quast.Quast.live_paths.Goals as goal

pub returns : goal.returns
returns c =
    let t = tree_of c.args.self.now in
    let start = ways_of (Some [] ∷ []) [] in
    let zero : c.loop-at.at ≡ 0 = search rules in
    let so_far = ap (λ ns. ways_from_last ns start) (sym c.nodes-nodes.ensures.nodes)
    ∙ (ap (λ i. ways_from_last (drop i c.nodes-nodes.result.now) start) (sym zero) ∙ c.loop-at.invariant.1) in
    let found = ap (λ (w : Ways). w.found) (sym (found_from_root t) ∙ so_far) in
    let turned : c.reverse.new.self.items ≡ reverse c.loop-at.found.items = search rules in
    turned ∙ sym found
