use Rattle.whole_numbers.proofs.Common.{◌∙◌, ◌∷◌, [], refl}
use Rattle.checked_tableau.proofs.QuestionAnswers.{under-size}
use Rattle.pip_solver.proofs.Decisions.{speaks_at}
use Rattle.pip_solver.proofs.asking.ask_with_under.Goals as goal

pub ask-requires-clause-more : goal.ask-requires-clause-more
ask-requires-clause-more c =
    speaks_at c.args.unknowns c.args.unknowns (c.in-Ok.second ∷ []) c.from_ref.result.now
    (under-size _ c.args.form.now c.in-Ok.second c.in-Ok.ensures ∙ c.requires.form, tt) c.from_ref.ensures.value refl
