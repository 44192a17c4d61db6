use Rattle.whole_numbers.proofs.Common.{◌∙◌, ◌∷◌, []}
use Rattle.pip_solver.proofs.Decisions.{speaks_at}
use Rattle.pip_solver.proofs.Questions.{opposite-size}
use Rattle.pip_solver.proofs.asking.ask_opposite.Goals as goal

pub ask-requires-clause-forms : goal.ask-requires-clause-forms
ask-requires-clause-forms c =
    let t = c.args.node.now in
    speaks_at t.rows.parameters c.parameters.result t.context.items c.deref.result.now c.requires.speaks
    c.deref.ensures.value c.parameters.ensures

pub ask-requires-clause-more : goal.ask-requires-clause-more
ask-requires-clause-more c =
    speaks_at c.args.node.now.rows.parameters c.parameters.result (c.in-Ok.opposite ∷ []) c.from_ref.result.now
    (opposite-size c.args.form.now c.in-Ok.opposite c.in-Ok.ensures ∙ c.requires.form, tt) c.from_ref.ensures.value
    c.parameters.ensures
