-- A leaf's verdict: its values, or that there is none.
use Rattle.whole_numbers.proofs.Common.{ℤ, List}
use Rattle.tableau_rows.specs.Problem.{Problem}
use Rattle.tableau_rows.specs.Run.{Verdict, point, none, IsRight}
use Rattle.lexmin_runs.specs.Leaves.{IsAnswer}
use Rattle.quast_trees.specs.Tree.{Tree}
use Rattle.quast_trees.specs.Value.{value}
use Rattle.quast_trees.specs.Leaf.{Leaf, initial, found}

abbrev pub said : Leaf → Verdict
said initial = none
said (found source x) = point x

-- the verdict of a tree at a point
abbrev pub verdict : Tree → List ℤ → Verdict
verdict tree p = said (value tree p)

pub answer_right : (problem : Problem) (p : List ℤ) (l : Leaf) → IsRight problem p (said l) → IsAnswer problem p l
answer_right problem p initial h = h
answer_right problem p (found source x) h = h
