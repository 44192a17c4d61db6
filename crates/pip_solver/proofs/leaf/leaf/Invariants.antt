use Rattle.whole_numbers.proofs.Common.{◌≡◌, ℕ, ◌+◌, List, [], drop, take, Ok}
use Rattle.quast_trees.specs.Tree.{Tree}
use Rattle.checked_tableau.specs.Nodes.{leaf_tree}
use Rattle.pip_solver.specs.steps.Frames.{under, KeepsSides}
use Rattle.pip_solver.proofs.leaf.leaf.Given as goal

abbrev pub invariant-loop-row : goal.invariant-loop-row
invariant-loop-row l =
    ((trees : List Tree) (n left : ℕ) → under n l.frames.items trees
    (Ok (
      leaf_tree l.rows.unknowns (l.rows.parameters + l.leaf.bound) l.leaf.bound
          (drop l.row (take l.rows.unknowns l.rows.rows)) l.leaf.forms.items,
      left,
    ))
    ≡ under n l.fn.frames.items trees (Ok (
      leaf_tree l.rows.unknowns l.rows.parameters 0
          (take l.rows.unknowns l.rows.rows) [],
      left,
    )))
    × KeepsSides l.fn.frames.items l.frames.items
