use Rattle.pip_solver.proofs.NodeMoves.{widened-cut}
use Rattle.pip_solver.proofs.ties.tied_rows.Goals as goal

pub returns-in-Ok-cut : goal.returns-in-Ok-cut
returns-in-Ok-cut c =
    widened-cut c.args.rows.now c.in-Ok.wider c.cut.new.self c.args.row c.parameters.result c.in-Ok.ensures
    c.requires.row c.parameters.ensures c.in-Ok-cut.ensures.run
