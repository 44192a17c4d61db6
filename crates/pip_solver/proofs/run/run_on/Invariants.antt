use Rattle.whole_numbers.proofs.Common.{◌≡◌, ◌≤◌, ◌+◌, length, reverse}
use Rattle.quast_trees.specs.Postfix.{standing}
use Rattle.checked_tableau.specs.Nodes.{whole}
use Rattle.pip_solver.specs.Node.{node_of}
use Rattle.pip_solver.specs.steps.Frames.{under, joins, seconds, IsReady, AreReady}
use Rattle.pip_solver.proofs.run.run_on.Given as goal

abbrev pub invariant-loop-stop : goal.invariant-loop-stop
invariant-loop-stop l =
    (under l.fn.node.rows.unknowns l.frames.items (standing l.builder)
    (whole l.fn.node.rows.unknowns l.left (node_of l.node))
    ≡ whole l.fn.node.rows.unknowns l.fn.left (node_of l.fn.node))
    × (length (standing l.builder) ≡ joins (reverse l.frames.items))
    × AreReady l.fn.node.rows.unknowns (reverse l.frames.items)
    × (l.left ≤ l.fn.left)
    × IsReady l.fn.node.rows.unknowns l.node

abbrev pub decreases-loop-stop : goal.decreases-loop-stop
decreases-loop-stop l = l.left + l.left + seconds (reverse l.frames.items)
