-- The join made node by node on a stack of trees, from the first quast's nodes in postfix order, with the second's
-- under each of its leaves; and how many binds stand round each node.
use Rattle.std.specs.Prelude.{◌≡◌, ℕ, suc, ◌+◌, ◌≤◌, ℤ, List, [], ◌∷◌, ◌++◌, length, All, ⊤}
use Rattle.quast_trees.specs.Source.{Forms}
use Rattle.quast_trees.specs.Tree.{Tree, initial, leaf, branch, bind, count, Speaks}
use Rattle.quast_trees.specs.Postfix.{branched, bound}
use Rattle.quast_trees.specs.declared.node.Node.{Node}
use Rattle.quast_trees.specs.declared.node.Node.TheVariants as node
use Rattle.quast_joins.specs.Shifts.{shifted_form, shifted_leaf, widened}
use Rattle.quast_joins.specs.Joins.{meet}
use Rattle.quast_joins.specs.Sizes.{AreFormsWithin, LeavesWithin}
use Rattle.quast_joins.specs.declared.way.Way.{Way}

-- a node, and how many binds stand round it
pub record Placed_node : Type 0 where
  pub node : Node
  pub binds : ℕ

-- the node with k binds round it
abbrev pub at : ℕ → Node → Placed_node
at k x = record { node = x; binds = k }

-- the nodes of a tree in postfix order, where k binds stand round the tree
abbrev pub paired : ℕ → Tree → List Placed_node
paired k initial = at k node.Initial ∷ []
paired k (leaf l) = at k (node.Forms l) ∷ []
paired k (branch f x y) = (paired k x ++ paired k y) ++ at k (node.Branch f (count y)) ∷ []
paired k (bind f d x) = paired (suc k) x ++ at k (node.Bind f d) ∷ []

-- each node with the number at its place
abbrev pub pairs : List Node → List ℕ → List Placed_node
pairs [] ks = []
pairs (x ∷ xs) [] = []
pairs (x ∷ xs) (k ∷ ks) = at k x ∷ pairs xs ks

-- the numbers of binds round a tree's nodes, where k stand round the tree
abbrev pub depths : ℕ → Tree → List ℕ
depths k initial = k ∷ []
depths k (leaf l) = k ∷ []
depths k (branch f x y) = (depths k x ++ depths k y) ++ k ∷ []
depths k (bind f d x) = depths (suc k) x ++ k ∷ []

-- those numbers as they are found from the last node to the first: of the trees that still come, and so far
pub record Depths : Type 0 where
  pub stack : List ℕ
  pub found : List ℕ

-- the numbers of these parts
abbrev pub depths_of : List ℕ → List ℕ → Depths
depths_of stack found = record { stack = stack; found = found }

-- the number on top
abbrev pub upper : List ℕ → ℕ
upper [] = 0
upper (k ∷ stack) = k

-- those below it
abbrev pub lower : List ℕ → List ℕ
lower [] = []
lower (k ∷ stack) = stack

-- the numbers of the sides of a node with k binds round it on top
abbrev pub side_depths : Node → ℕ → List ℕ → List ℕ
side_depths (node.Branch f n) k stack = k ∷ k ∷ stack
side_depths (node.Bind f d) k stack = suc k ∷ stack
side_depths node.Initial k stack = stack
side_depths (node.Forms l) k stack = stack

-- one node, from the last on
abbrev pub depth_step : Node → Depths → Depths
depth_step x s = depths_of (side_depths x (upper s.stack) (lower s.stack)) (upper s.stack ∷ s.found)

-- all of them
abbrev pub from_last : List Node → Depths → Depths
from_last [] s = s
from_last (x ∷ xs) s = depth_step x (from_last xs s)

-- what one node of the second tree, with j binds round it, puts on the stack under a leaf that names an instance:
-- n variables are common, k new parameters are bound at the leaf
abbrev pub under_built : Way → ℕ → ℕ → Forms → List Tree → ℕ → Node → List Tree
under_built way n k a stack j node.Initial = leaf (widened j a) ∷ stack
under_built way n k a stack j (node.Forms b) = meet way (widened j a) (shifted_leaf n k b) ∷ stack
under_built way n k a stack j (node.Branch f m) = branched (shifted_form n k f) stack
under_built way n k a stack j (node.Bind f d) = bound (shifted_form n k f) d stack

-- what it puts there under the initial value
abbrev pub moved_built : ℕ → ℕ → List Tree → Node → List Tree
moved_built n k stack node.Initial = initial ∷ stack
moved_built n k stack (node.Forms b) = leaf (shifted_leaf n k b) ∷ stack
moved_built n k stack (node.Branch f m) = branched (shifted_form n k f) stack
moved_built n k stack (node.Bind f d) = bound (shifted_form n k f) d stack

-- a step on the stack for each node, in order
abbrev pub steps : (List Tree → Placed_node → List Tree) → List Tree → List Placed_node → List Tree
steps step stack [] = stack
steps step stack (x ∷ xs) = steps step (step stack x) xs

-- such a step under a leaf that names an instance
abbrev pub under_step : Way → ℕ → ℕ → Forms → List Tree → Placed_node → List Tree
under_step way n k a stack x = under_built way n k a stack x.binds x.node

-- such a step under the initial value
abbrev pub moved_step : ℕ → ℕ → List Tree → Placed_node → List Tree
moved_step n k stack x = moved_built n k stack x.node

-- what one node of the first tree, with k binds round it, puts there; the second's nodes are these
abbrev pub join_built : Way → ℕ → List Placed_node → List Tree → ℕ → Node → List Tree
join_built way n bs stack k node.Initial = steps (moved_step n k) stack bs
join_built way n bs stack k (node.Forms a) = steps (under_step way n k a) stack bs
join_built way n bs stack k (node.Branch f m) = branched f stack
join_built way n bs stack k (node.Bind f d) = bound f d stack

-- such a step for a node of the first tree
abbrev pub join_step : Way → ℕ → List Placed_node → List Tree → Placed_node → List Tree
join_step way n bs stack x = join_built way n bs stack x.binds x.node

-- as many trees stand as a node takes
abbrev pub Takes : Node → List Tree → Type 0
Takes (node.Branch f m) stack = 2 ≤ length stack
Takes (node.Bind f d) stack = 1 ≤ length stack
Takes node.Initial stack = ⊤
Takes (node.Forms l) stack = ⊤

-- at each step as many stand as its node takes
abbrev pub Enough : (List Tree → Placed_node → List Tree) → List Tree → List Placed_node → Type 0
Enough step stack [] = ⊤
Enough step stack (x ∷ xs) = Takes x.node stack × Enough step (step stack x) xs

-- a node speaks of the variables that stand at its place, n at the root, and a leaf's numbers are within the bound
abbrev pub FitsAt : ℤ → ℕ → Node → ℕ → Type 0
FitsAt bound n node.Initial j = ⊤
FitsAt bound n (node.Forms l) j =
    (l.variables ≡ n + j) × All (λ f. length f.coefficients ≡ n + j) l.forms × AreFormsWithin bound l.forms
FitsAt bound n (node.Branch f m) j = length f.coefficients ≡ n + j
FitsAt bound n (node.Bind f d) j = length f.coefficients ≡ n + j

-- each of the nodes does
abbrev pub AllFit : ℤ → ℕ → List Placed_node → Type 0
AllFit bound n [] = ⊤
AllFit bound n (x ∷ xs) = FitsAt bound n x.node x.binds × AllFit bound n xs

-- nodes with the numbers of binds round them are a tree's, which speaks of n variables, and has numbers within the
-- bound at its leaves
pub record IsMarked (bound : ℤ) (n : ℕ) (nodes : List Node) (binds : List ℕ) : Type 0 where
  pub size : length binds ≡ length nodes
  pub tree : Tree
  pub paired_is : pairs nodes binds ≡ paired 0 tree
  pub speaks : Speaks n tree
  pub small : LeavesWithin bound tree
