-- A property of each leaf of a tree.
use Rattle.std.specs.Prelude.{⊤}
use Rattle.quast_trees.specs.Source.{Forms}
use Rattle.quast_trees.specs.Tree.{Tree, initial, leaf, branch, bind}

-- each leaf of forms is so
abbrev pub LeavesAre : (Forms → Type 0) → Tree → Type 0
LeavesAre P initial = ⊤
LeavesAre P (leaf l) = P l
LeavesAre P (branch test first second) = LeavesAre P first × LeavesAre P second
LeavesAre P (bind form divisor body) = LeavesAre P body
