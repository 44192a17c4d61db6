use Rattle.checked_tableau.proofs.KeptSolutions.{pivot_keeps}
use Rattle.pip_solver.specs.Node.{node_of}
use Rattle.pip_solver.proofs.NodeMoves.{pivots-keep}
use Rattle.pip_solver.proofs.node.Tableau.pivot.Goals as goal

pub returns-clause-solutions : goal.returns-clause-solutions
returns-clause-solutions c going is =
    let t = c.args.self.now in
    pivots-keep t c.pivot_rows.new.self c.args.row c.pivot_rows.result (c.pivot_rows.ensures.run going)
    (λ next ran. pivot_keeps t.rows.unknowns 1 (node_of t) c.args.row next 0 is c.requires ran)
