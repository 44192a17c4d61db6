use Rattle.quast_joins.proofs.Common.{◌∷◌, ℕ, List, sym, ap, ap₂, ◌∙◌, on_ok_weaker, standing, tree_of, join}
use Rattle.quast_joins.proofs.Common.{Placed_node, steps, join_step}
use Rattle.quast_joins.proofs.Steps.{join_run}
use Rattle.quast_joins.proofs.Marks.{marked_of, pairs_written}
use Rattle.quast_joins.proofs.join.push_quasts.Goals as goal

pub push_nodes-requires-clause-nodes : goal.push_nodes-requires-clause-nodes
push_nodes-requires-clause-nodes c =
    marked_of c.parameters.result c.args.first.now.parameters (tree_of c.args.first.now) c.nodes.result.now
    c.deref.result.now c.nodes.ensures.nodes (c.deref.ensures.value ∙ c.in_ok-rounds.ensures) c.nodes.ensures.speaks
    (sym c.parameters.ensures) c.requires.first

pub push_nodes-requires-clause-others : goal.push_nodes-requires-clause-others
push_nodes-requires-clause-others c =
    marked_of c.parameters.result c.args.second.now.parameters (tree_of c.args.second.now) c.nodes-2.result.now
    c.deref-2.result.now c.nodes-2.ensures.nodes (c.deref-2.ensures.value ∙ c.in_ok-binds.ensures)
    c.nodes-2.ensures.speaks (sym c.requires.parameters ∙ sym c.parameters.ensures) c.requires.second

pub returns : goal.returns
returns c =
    let t = tree_of c.args.first.now in
    let u = tree_of c.args.second.now in
    let way = c.args.way in
    let old = standing c.args.builder.now in
    let p = pairs_written u c.nodes-2.result.now c.deref-2.result.now c.nodes-2.ensures.nodes
    (c.deref-2.ensures.value ∙ c.in_ok-binds.ensures) in
    let q = pairs_written t c.nodes.result.now c.deref.result.now c.nodes.ensures.nodes
    (c.deref.ensures.value ∙ c.in_ok-rounds.ensures) in
    let built = ap₂ (λ (bs ns : List Placed_node). steps (join_step way c.parameters.result bs) old ns) p q
    ∙ join_run way c.parameters.result 0 t u old
    ∙ ap (λ (i : ℕ). join way i t u ∷ old) c.parameters.ensures in
    on_ok_weaker c.push_nodes.result (λ h. h ∙ built) c.push_nodes.ensures
