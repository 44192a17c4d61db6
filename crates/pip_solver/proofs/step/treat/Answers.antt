use Rattle.pip_solver.proofs.Questions.{asks_of}
use Rattle.pip_solver.proofs.step.treat.Goals as goal

pub above_somewhere-requires : goal.above_somewhere-requires
above_somewhere-requires c = asks_of c.args.node.now c.args.row c.requires.node c.requires.row
