use Rattle.whole_numbers.proofs.Common.{◌≡◌, ◌≤◌, drop}
use Rattle.checked_tableau.specs.Nodes.{first_asked, below_somewhere, part_of}
use Rattle.pip_solver.specs.Node.{node_of}
use Rattle.pip_solver.proofs.looking.first_below.Given as goal

abbrev pub invariant-loop-row : goal.invariant-loop-row
invariant-loop-row l =
    (l.left ≤ l.fn.left)
    × (first_asked (λ k row. below_somewhere k (node_of l.node) (part_of l.node.rows.unknowns row)) l.left l.row
    (drop l.row l.node.rows.rows)
    ≡ first_asked (λ k row. below_somewhere k (node_of l.node) (part_of l.node.rows.unknowns row)) l.fn.left 0
    l.node.rows.rows)
