use Rattle.checked_tableau.specs.Moves.{row_at}
use Rattle.checked_tableau.specs.Nodes.{split, part_of}
use Rattle.checked_tableau.proofs.KeptSolutions.{split_keeps, part_size}
use Rattle.pip_solver.specs.Node.{node_of}
use Rattle.pip_solver.proofs.NodeMoves.{moves-keep}
use Rattle.pip_solver.proofs.node.Tableau.split.Goals as goal

pub returns-clause-solutions : goal.returns-clause-solutions
returns-clause-solutions c going is =
    let t = c.args.self.now in
    let f = part_of t.rows.unknowns (row_at t.rows.rows c.args.row) in
    moves-keep t c.split_rows.new.self (λ left. split left (node_of t) f) c.split_rows.result
    (c.split_rows.ensures.run going)
    (λ next ran. split_keeps t.rows.unknowns 1 (node_of t) f next 0 is
    (part_size t.rows.unknowns (node_of t) c.args.row is c.requires) ran)
