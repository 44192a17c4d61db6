-- The plain data that the code's values stand for.
use Rattle.std.specs.Prelude.{List, [], ◌∷◌, map}
use Rattle.loop_tree.specs.Tree.{Bounds, bounds_of, Test, at_least, equal, multiple, Tree, loop, guard, instance}
use Rattle.loop_tree.specs.Tree.{Trees, none, more}
use Rattle.loop_tree.specs.declared.tree.Bounds.{Bounds as CodeBounds}
use Rattle.loop_tree.specs.declared.tree.Tree.{Tree as CodeTree}
use Rattle.loop_tree.specs.declared.tree.Test.{Test as CodeTest}
use Rattle.loop_tree.specs.declared.tree.Test.TheVariants.{AtLeast, Equal, Multiple}
use Rattle.loop_tree.specs.declared.tree.Node.{Node}
use Rattle.loop_tree.specs.declared.tree.Node.TheFolds.{fold-Node}
use Rattle.loop_tree.specs.declared.tree.Node.TheOpen.{Node-F}

-- the test that a value of the code stands for
abbrev pub test_of : CodeTest → Test
test_of (AtLeast form) = at_least form
test_of (Equal form) = equal form
test_of (Multiple form d) = multiple form d

-- the bounds that a value of the code stands for
abbrev pub bounds_in : CodeBounds → Bounds
bounds_in b = bounds_of b.first b.others.items

-- a list of trees as trees, one after another
abbrev pub trees_of : List Tree → Trees
trees_of [] = none
trees_of (t ∷ ts) = more t (trees_of ts)

-- one level of the tree, over the views of the levels below
abbrev pub tree_step : Node-F Tree → Tree
tree_step (Node-F.Loop l body) = loop l.parallel (bounds_in l.lower) (bounds_in l.upper) (trees_of body.items)
tree_step (Node-F.Guard guarded body) = guard (map test_of guarded.tests.items) (trees_of body.items)
tree_step (Node-F.Instance leaf) = instance leaf.statement leaf.turns.items

-- the tree that a node stands for
abbrev pub tree_of : Node → Tree
tree_of = fold-Node Tree tree_step

-- the trees that nodes stand for
abbrev pub nodes_of : List Node → Trees
nodes_of nodes = trees_of (map tree_of nodes)

-- the trees that a value of the code stands for
abbrev pub trees_in : CodeTree → Trees
trees_in t = nodes_of t.nodes.items
