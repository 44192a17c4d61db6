use Rattle.pip_solver.proofs.Decisions.{unposed_stops}
use Rattle.pip_solver.proofs.emptiness.answer.Goals as goal

pub returns-in-Err-clause-run : goal.returns-in-Err-clause-run
returns-in-Err-clause-run c =
    unposed_stops c.args.budget c.args.system.now c.in-Err.stop c.in-Err.ensures.formed
