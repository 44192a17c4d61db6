-- Nodes that make a quast.
use Rattle.whole_numbers.proofs.Common.{◌≡◌, ℕ, List, [], ◌∷◌, ◌++◌, length, refl, sym, ap, ◌∙◌, subst, Affine}
use Rattle.quast_trees.specs.Tree.{Tree, branch, count, Speaks}
use Rattle.quast_trees.specs.Postfix.{held, written, tree_of, IsQuast}
use Rattle.quast_trees.specs.declared.node.Node.{Node}
use Rattle.quast_trees.specs.declared.node.Node.TheVariants as node
use Rattle.quast_trees.proofs.WrittenNodes.{read_written, length-written}

-- what a tree writes is read as that tree
pub tree_of_held : (n : ℕ) (t : Tree) (nodes : List Node) → nodes ≡ written t → tree_of (held n nodes) ≡ t
tree_of_held n t nodes e = ap (λ (xs : List Node). tree_of (held n xs)) e ∙ read_written t

-- what a tree writes is a quast, if the tree speaks of the parameters
pub quast_of_tree : (n : ℕ) (t : Tree) (nodes : List Node) → nodes ≡ written t → Speaks n t → IsQuast (held n nodes)
quast_of_tree n t nodes e speaks = record {
  spelled = e ∙ ap written (sym (tree_of_held n t nodes e));
  speaks = subst (λ (u : Tree). Speaks n u) (sym (tree_of_held n t nodes e)) speaks;
}

-- a branch's nodes: the first side's, the second's and its own
pub branch_nodes : (f : Affine) (first second : Tree) (xs ys nodes : List Node) (n : ℕ) → xs ≡ written first
    → ys ≡ written second
    → n ≡ length ys → nodes ≡ xs ++ ys → nodes ++ node.Branch f n ∷ [] ≡ written (branch f first second)
branch_nodes f first second xs ys nodes n p q counted e =
    let k : n ≡ count second = counted ∙ ap length q ∙ length-written second in
    rw (e, p, q, k) refl
