use Rattle.quast_joins.proofs.Common.{◌≡◌, ℕ, subst, sym, ap, ap₂, ◌∙◌, arith, sum_by, Tree, count, Speaks, tree_of}
use Rattle.quast_joins.proofs.Common.{value, join, capped, join_count, join_node, most_told}
use Rattle.quast_trees.specs.Postfix.{read, top}
use Rattle.quast_joins.proofs.Counts.{join-count, join_added}
use Rattle.quast_joins.proofs.Values.{join-value}
use Rattle.quast_joins.proofs.Variables.{join-speaks}
use Rattle.quast_joins.proofs.join.joined.Goals.{After-count_nodes-nodes, In-Ok}
use Rattle.quast_joins.proofs.join.joined.Goals as goal

-- what is counted
told : (c : After-count_nodes-nodes)
    → c.count_nodes-nodes.result ≡ capped most_told (join_count (tree_of c.args.first.now) (tree_of c.args.second.now))
told c =
    c.count_nodes-nodes.ensures
    ∙ (ap₂ (λ xs ys. capped most_told (sum_by (join_node ys) xs)) c.nodes.ensures.nodes c.nodes-2.ensures.nodes
    ∙ ap (capped most_told) (sym (join_added (tree_of c.args.first.now) (tree_of c.args.second.now))))

pub returns-then-nodes-gt4096-clause-spent : goal.returns-then-nodes-gt4096-clause-spent
returns-then-nodes-gt4096-clause-spent c =
    let t = told (goal.at.returns-then-nodes-gt4096-clause-spent c).After-count_nodes-nodes in
    let h = c.if-nodes-gt4096.true in
    (omega arith, t)

pub returns-in-Err-clause-spent : goal.returns-in-Err-clause-spent
returns-in-Err-clause-spent c =
    let t = told (goal.at.returns-in-Err-clause-spent c).After-count_nodes-nodes in
    let h = c.if-nodes-gt4096.false in
    omega arith

-- the tree that is made
made : (c : In-Ok) → read c.push_quasts.new.builder
    ≡ join c.args.way c.args.first.now.parameters (tree_of c.args.first.now) (tree_of c.args.second.now)
made c = ap top c.in-Ok.ensures

pub finish-requires-clause-speaks : goal.finish-requires-clause-speaks
finish-requires-clause-speaks c =
    let at = (goal.at.finish-requires-clause-speaks c).In-Ok in
    let n = c.args.first.now.parameters in
    let t = tree_of c.args.first.now in
    let u = tree_of c.args.second.now in
    let s : Speaks n t = c.nodes.ensures.speaks in
    let r : Speaks n u = subst (λ (i : ℕ). Speaks i u) (sym c.requires.parameters) c.nodes-2.ensures.speaks in
    subst (Speaks c.parameters.result) (sym (made at))
    (subst (λ (i : ℕ). Speaks i (join c.args.way n t u)) (sym c.parameters.ensures) (join-speaks c.args.way n t u s r))

pub returns-in-Ok-clause-value : goal.returns-in-Ok-clause-value
returns-in-Ok-clause-value c = λ point size.
    let at = (goal.at.returns-in-Ok-clause-value c).In-Ok in
    let n = c.args.first.now.parameters in
    let t = tree_of c.args.first.now in
    let u = tree_of c.args.second.now in
    ap (λ (z : Tree). value z point) (c.finish.ensures.tree ∙ made at)
    ∙ join-value c.args.way n t u point size c.nodes.ensures.speaks

pub returns-in-Ok-clause-few : goal.returns-in-Ok-clause-few
returns-in-Ok-clause-few c =
    let at = (goal.at.returns-in-Ok-clause-few c).In-Ok in
    let start = (goal.at.returns-in-Ok-clause-few c).After-count_nodes-nodes in
    let n = c.args.first.now.parameters in
    let t = tree_of c.args.first.now in
    let u = tree_of c.args.second.now in
    let e : count (tree_of c.finish.result) ≡ join_count t u =
    ap count (c.finish.ensures.tree ∙ made at) ∙ join-count c.args.way n t u in
    let k = told start in
    let h = c.if-nodes-gt4096.false in
    omega arith
