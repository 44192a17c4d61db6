use Rattle.scop_syntax.proofs.Common.{◌≡◌, ◌++◌, ◌∙◌, ap, rules, List, map, map-append, Affine}
use Rattle.loop_tree.specs.Tree.{Tree}
use Rattle.loop_tree.specs.View.{tree_of}
use Rattle.split_scan.proofs.InnerNodes.{one_tree}
use Rattle.split_scan.proofs.nodes.push_loop.Goals as goal

pub returns : goal.returns
returns c low high others is =
    let cuts = c.args.cuts.now in
    let old = c.args.out.now.items in
    let round = c.in_ok-round.round.items in
    let bounds = c.deref.ensures.value ∙ c.in_ok-bounds.ensures ∙ ap (λ (fs : List Affine). fs ++ cuts) is in
    let one = one_tree (map tree_of round) _ (c.in_ok-round.ensures low high (others ++ cuts) bounds) in
    let appended : c.append.new.self.items ≡ old ++ round = search rules in
    ap (map tree_of) appended ∙ map-append tree_of old round ∙ ap (λ (ts : List Tree). map tree_of old ++ ts) one
