use Rattle.pip_solver.proofs.Decisions.{speaks_at}
use Rattle.pip_solver.proofs.asking.above_somewhere.Goals as goal

pub ask-requires-clause-forms : goal.ask-requires-clause-forms
ask-requires-clause-forms c =
    let t = c.args.node.now in
    speaks_at t.rows.parameters c.parameters.result t.context.items c.deref.result.now c.requires.1
    c.deref.ensures.value c.parameters.ensures
