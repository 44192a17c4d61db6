use Rattle.whole_numbers.proofs.Common.{◌≡◌, [], ◌∷◌, ◌++◌, length, rules, ap, ◌∙◌, IfOk-weaker}
use Rattle.quast_trees.specs.Tree.{branch, Speaks}
use Rattle.quast_trees.specs.Postfix.{held, tree_of, read, Postfix}
use Rattle.quast_trees.specs.declared.node.Node.TheVariants as node
use Rattle.quast_trees.proofs.quast.Quast.branch.Goals as goal
use Rattle.quast_trees.proofs.QuastNodes.{branch_nodes, quast_of_tree, tree_of_held}

pub ending-requires : goal.ending-requires
ending-requires c =
    let xs = c.first.inside.nodes.items in
    let ys = c.second.inside.nodes.items in
    let e : c.append.new.self.items ≡ xs ++ ys = search rules in
    let n : c.len-second.result ≡ length ys = search rules in
    let t : length c.args.test.coefficients ≡ c.first.inside.parameters = search rules in
    let s : Speaks c.first.inside.parameters (read ys) = search rules in
    let k = branch_nodes c.args.test (read xs) (read ys) xs ys c.append.new.self.items c.len-second.result
    c.first.invariant.spelled c.second.invariant.spelled n e in
    quast_of_tree c.first.inside.parameters (branch c.args.test (read xs) (read ys)) _ k
    (t, c.first.invariant.speaks, s)

pub returns-clause-tree : goal.returns-clause-tree
returns-clause-tree c =
    let xs = c.first.inside.nodes.items in
    let ys = c.second.inside.nodes.items in
    let e : c.append.new.self.items ≡ xs ++ ys = search rules in
    let n : c.len-second.result ≡ length ys = search rules in
    let k = branch_nodes c.args.test (read xs) (read ys) xs ys c.append.new.self.items c.len-second.result
    c.first.invariant.spelled c.second.invariant.spelled n e in
    let t = tree_of_held c.first.inside.parameters (branch c.args.test (read xs) (read ys)) _ k in
    rw (← c.first.view_is, ← c.second.view_is) (IfOk-weaker _ _ _
    (λ (q : Postfix) (h : q ≡ held c.first.inside.parameters
    (c.append.new.self.items ++ node.Branch c.args.test c.len-second.result ∷ [])). ap tree_of h
    ∙ t) c.ending.ensures)
