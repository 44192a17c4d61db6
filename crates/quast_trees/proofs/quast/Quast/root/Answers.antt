use Rattle.whole_numbers.proofs.Common.{◌≡◌, length, ap, ◌∙◌, arith}
use Rattle.quast_trees.specs.Postfix.{tree_of}
use Rattle.quast_trees.specs.Tree.{count}
use Rattle.quast_trees.proofs.Places.{count_positive, at_end, subtree-is}
use Rattle.quast_trees.proofs.PlaceNodes.{is_place}
use Rattle.quast_trees.proofs.WrittenNodes.{length-written}
use Rattle.quast_trees.proofs.quast.Quast.root.Goals as goal

pub overflow_sub-result : goal.overflow_sub-result
overflow_sub-result c =
    let e : length c.nodes-nodes.result.now ≡ count (tree_of c.args.self.now) =
    ap length c.nodes-nodes.ensures.nodes ∙ length-written (tree_of c.args.self.now) in
    omega (arith, count_positive (tree_of c.args.self.now))

pub invariant_of-result : goal.invariant_of-result
invariant_of-result c =
    is_place _ _ (tree_of c.args.self.now)
    (at_end (tree_of c.args.self.now) c.nodes-nodes.result.now c.nodes-nodes.ensures.nodes)

pub returns : goal.returns
returns c =
    subtree-is _ _ (tree_of c.args.self.now)
    (at_end (tree_of c.args.self.now) c.nodes-nodes.result.now c.nodes-nodes.ensures.nodes)
