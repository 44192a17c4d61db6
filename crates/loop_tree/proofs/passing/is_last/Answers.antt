use Rattle.scop_syntax.proofs.Common.{rules, ◌≡◌, ◌++◌, ◌∷◌, [], length, true}
use Rattle.loop_tree.proofs.Braids.{done_at}
use Rattle.loop_tree.proofs.passing.is_last.Goals as goal

pub returns-else-mark-others : goal.returns-else-mark-others
returns-else-mark-others c =
    let nodes = c.args.nodes.now in
    let m = c.args.mark.now in
    let ns = c.in-Some.others.now in
    let node = c.in-Some.node.now in
    let all : nodes ≡ ns ++ node ∷ [] = search rules in
    let place : m.place ≡ length ns = search rules in
    let begun : m.begun ≡ true = search rules in
    λ leaf ms params outer.
    done_at nodes ns node m.place m.begun m.value m.last ms params outer all place begun (c.is_leaf.ensures leaf)
