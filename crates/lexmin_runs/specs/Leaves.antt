-- What a leaf of a run's tree says of its problem, and when the tree is one leaf.
use Rattle.std.specs.Prelude.{ℤ, List, ⊤}
use Rattle.tableau_rows.specs.Problem.{Problem, IsLexmin, IsEmpty}
use Rattle.quast_trees.specs.Leaf.{Leaf, initial, found}
use Rattle.quast_trees.specs.Tree.{Tree, leaf, branch, bind}
use Rattle.quast_trees.specs.Tree as tree

-- what a leaf says of a problem at the parameters p: its values are the lexicographic minimum; the initial one, that
-- there is no whole point
abbrev pub IsAnswer : Problem → List ℤ → Leaf → Type 0
IsAnswer problem p initial = IsEmpty problem p
IsAnswer problem p (found source x) = IsLexmin problem p x

-- a tree that is one leaf
abbrev pub IsOneLeaf : Tree → Type 0
IsOneLeaf tree.initial = ⊤
IsOneLeaf (leaf l) = ⊤
IsOneLeaf (branch test first second) = ⊥
IsOneLeaf (bind form divisor body) = ⊥
