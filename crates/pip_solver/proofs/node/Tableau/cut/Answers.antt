use Rattle.checked_tableau.specs.Nodes.{cut}
use Rattle.checked_tableau.proofs.KeptSolutions.{cut_keeps}
use Rattle.pip_solver.specs.Node.{node_of}
use Rattle.pip_solver.proofs.NodeMoves.{moves-keep}
use Rattle.pip_solver.proofs.node.Tableau.cut.Goals as goal

pub returns-clause-solutions : goal.returns-clause-solutions
returns-clause-solutions c going is below =
    let t = c.args.self.now in
    moves-keep t c.cut_rows.new.self (λ left. cut t.rows.unknowns left (node_of t) c.args.row) c.cut_rows.result
    (c.cut_rows.ensures.run going)
    (λ next ran. cut_keeps t.rows.unknowns 1 (node_of t) c.args.row next 0 is below ran)
