-- The weight of a tree, by which walks over nodes fall, and the nodes of a list one by one.
use Rattle.scop_syntax.proofs.Common.{◌≡◌, ℕ, zero, suc, ◌+◌, ◌≤◌, ◌<◌, List, [], ◌∷◌, length, drop, get_or, ap, sym}
use Rattle.scop_syntax.proofs.Common.{subst, ◌∙◌, refl, arith, add-one, drop-cons}
use Rattle.loop_tree.specs.Tree.{Tree, loop, guard, instance, Trees, none, more}
use Rattle.loop_tree.specs.declared.tree.Node.{Node}
use Rattle.loop_tree.specs.View.{tree_of, nodes_of}

-- how much of a tree a call goes over
abbrev mutual
  pub weight : Tree → ℕ
  weight (loop flag lo up body) = weight_all body + 6
  weight (guard tests body) = weight_all body + 6
  weight (instance n forms) = 1

  pub weight_all : Trees → ℕ
  weight_all none = 0
  weight_all (more t ts) = weight t + weight_all ts

weight_member : (nodes : List Node) (i : ℕ) (d : Node) → i < length nodes
    → weight (tree_of (get_or nodes i d)) ≤ weight_all (nodes_of nodes)
weight_member [] i d h = absurd (omega arith)
weight_member (x ∷ xs) zero d h = omega arith
weight_member (x ∷ xs) (suc i) d h = let below = weight_member xs i d (omega arith) in omega arith

-- a node weighs no more than all
pub node_weight : (nodes : List Node) (i : ℕ) (node : Node) → node ≡ get_or nodes i node → i < length nodes
    → weight (tree_of node) ≤ weight_all (nodes_of nodes)
node_weight nodes i node found h =
    subst (λ (x : Node). weight (tree_of x) ≤ weight_all (nodes_of nodes)) (sym found) (weight_member nodes i node h)

-- the nodes from i on begin with the one at i
pub node_here : (nodes : List Node) (i : ℕ) (node : Node) → node ≡ get_or nodes i node → i < length nodes
    → nodes_of (drop i nodes) ≡ more (tree_of node) (nodes_of (drop (i + 1) nodes))
node_here nodes i node found h =
    let rest = nodes_of (drop (i + 1) nodes) in
    let first : nodes_of (drop i nodes)
    ≡ more (tree_of (get_or nodes i node)) rest = rw (add-one, drop-cons nodes i node) refl in
    first ∙ ap (λ (x : Node). more (tree_of x) rest) (sym found)
