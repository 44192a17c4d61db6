use Rattle.pip_solver.proofs.Decisions.{speaks_at}
use Rattle.pip_solver.proofs.asking.context_holds.Goals as goal

pub ask-requires-clause-forms : goal.ask-requires-clause-forms
ask-requires-clause-forms c =
    let t = c.args.node.now in
    let k = c.parameters-parameters in
    speaks_at t.rows.parameters k.result t.context.items c.deref-2.result.now c.requires c.deref-2.ensures.value
    k.ensures
