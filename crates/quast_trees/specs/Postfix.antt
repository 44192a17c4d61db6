-- Trees as their nodes in postfix order, as a stack machine reads them.
use Rattle.std.specs.Prelude.{◌≡◌, ℕ, ℤ, List, [], ◌∷◌, ◌++◌, length, fold, ⊤}
use Rattle.whole_numbers.specs.Affine.{Affine}
use Rattle.quast_trees.specs.Source.{Source, with_source}
use Rattle.quast_trees.specs.Tree.{Tree, initial, leaf, branch, bind, count, Speaks}
use Rattle.quast_trees.specs.declared.node.Node.{Node}
use Rattle.quast_trees.specs.declared.node.Node.TheVariants as node

-- a tree's nodes in postfix order: the sides, then the node itself
abbrev pub written : Tree → List Node
written initial = node.Initial ∷ []
written (leaf l) = node.Forms l ∷ []
written (branch test first second) = (written first ++ written second) ++ node.Branch test (count second) ∷ []
written (bind form divisor body) = written body ++ node.Bind form divisor ∷ []

-- a node builds its tree from the trees on the stack
abbrev pub built : List Tree → Node → List Tree
built stack node.Initial = initial ∷ stack
built stack (node.Forms l) = leaf l ∷ stack
built (second ∷ first ∷ stack) (node.Branch test n) = branch test first second ∷ stack
built (body ∷ stack) (node.Bind form divisor) = bind form divisor body ∷ stack
built stack _ = stack

-- a node that stands for a tree of its own
abbrev pub IsLeaf : Node → Type 0
IsLeaf node.Initial = ⊤
IsLeaf (node.Forms l) = ⊤
IsLeaf _ = ⊥

-- the tree on top of the stack
abbrev pub top : List Tree → Tree
top [] = initial
top (t ∷ stack) = t

-- the trees that nodes in postfix order leave on the stack, the last on top
abbrev pub standing : List Node → List Tree
standing nodes = fold built [] nodes

-- the two trees on top joined by a test, the upper one being the second side
abbrev pub branched : Affine → List Tree → List Tree
branched test [] = []
branched test (t ∷ []) = t ∷ []
branched test (second ∷ first ∷ stack) = branch test first second ∷ stack

-- the tree on top as the body of a bind
abbrev pub bound : Affine → ℤ → List Tree → List Tree
bound form divisor [] = []
bound form divisor (body ∷ stack) = bind form divisor body ∷ stack

-- the nodes of the trees on a stack, the lowest first
abbrev pub laid : List Tree → List Node
laid [] = []
laid (t ∷ stack) = laid stack ++ written t

-- where each tree's nodes begin
abbrev pub starts : List Tree → List ℕ
starts [] = []
starts (t ∷ stack) = starts stack ++ length (laid stack) ∷ []

-- the nodes are those of the trees that they leave, which begin at these places
pub record IsStack (nodes : List Node) (places : List ℕ) : Type 0 where
  pub spelled : nodes ≡ laid (standing nodes)
  pub begin : places ≡ starts (standing nodes)

-- a node as one of a tree with a source for each leaf of forms
abbrev pub named_node : Source → Node → Node
named_node s node.Initial = node.Initial
named_node s (node.Forms l) = node.Forms (with_source s l)
named_node s (node.Branch test n) = node.Branch test n
named_node s (node.Bind form divisor) = node.Bind form divisor

-- a quast as it is held: how many parameters it has, and its nodes in postfix order
pub record Postfix : Type 0 where
  pub parameters : ℕ
  pub nodes : List Node

-- the quast of these nodes
abbrev pub held : ℕ → List Node → Postfix
held parameters nodes = record { parameters = parameters; nodes = nodes }

-- the tree that nodes in postfix order stand for, as a stack machine reads them
abbrev pub read : List Node → Tree
read nodes = top (fold built [] nodes)

-- a quast's tree
abbrev pub tree_of : Postfix → Tree
tree_of quast = read quast.nodes

-- the nodes are those of a tree, written in postfix order, and the tree speaks of the parameters
pub record IsQuast (quast : Postfix) : Type 0 where
  pub spelled : quast.nodes ≡ written (tree_of quast)
  pub speaks : Speaks quast.parameters (tree_of quast)
