-- The places of trees among nodes in postfix order.
use Rattle.std.specs.Prelude.{◌≡◌, ℕ, ◌+◌, List, ◌++◌, length, take}
use Rattle.quast_trees.specs.Tree.{Tree, count}
use Rattle.quast_trees.specs.Postfix.{written, top, standing}
use Rattle.quast_trees.specs.declared.node.Node.{Node}

-- a tree's nodes stand among others, and its own is at a place
pub record IsAt (nodes : List Node) (place : ℕ) (t : Tree) : Type 0 where
  pub front : List Node
  pub back : List Node
  pub split : nodes ≡ (front ++ written t) ++ back
  pub ends : place + 1 ≡ length front + count t

-- a place among nodes
pub record Spot : Type 0 where
  pub nodes : List Node
  pub at : ℕ

-- the spot at a place among these nodes
abbrev pub place_in : List Node → ℕ → Spot
place_in nodes at = record { nodes = nodes; at = at }

-- the tree whose own node is at the place: what is left on top when the nodes up to it are read
abbrev pub subtree : Spot → Tree
subtree s = top (standing (take (s.at + 1) s.nodes))

-- a tree's own node is at the place
abbrev pub IsPlace : Spot → Type 0
IsPlace s = IsAt s.nodes s.at (subtree s)
