use Rattle.scop_syntax.proofs.Common.{◌≤◌, ◌-◌, [], List, ℤ, length, take}
use Rattle.loop_tree.specs.steps.Going.{CanGo, Leads}
use Rattle.loop_tree.specs.SpotView.{marks_of}
use Rattle.loop_tree.specs.View.{nodes_of}
use Rattle.loop_tree.proofs.near.near_of.Given as goal

abbrev pub invariant-loop-depth : goal.invariant-loop-depth
invariant-loop-depth l =
    (l.depth ≤ length l.row) × (l.depth ≤ length l.marks) × (l.found.depth ≤ l.depth)
    × ((params : List ℤ) → CanGo (nodes_of l.nodes) (marks_of l.marks) params []
    → Leads (nodes_of l.nodes) (marks_of l.marks) params (nodes_of l.at) l.depth (take l.depth l.row)
    × Leads (nodes_of l.nodes) (marks_of l.marks) params (nodes_of l.found.nodes.now) l.found.depth
    (take l.found.depth l.row))

abbrev pub decreases-loop-depth : goal.decreases-loop-depth
decreases-loop-depth l = length l.row - l.depth
