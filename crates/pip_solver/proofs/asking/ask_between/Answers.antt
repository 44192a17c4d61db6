use Rattle.whole_numbers.proofs.Common.{◌∙◌, ◌+◌, ℕ, ap}
use Rattle.pip_solver.proofs.Questions.{above-size}
use Rattle.pip_solver.proofs.asking.ask_between.Goals as goal

pub ask_under-requires-clause-first : goal.ask_under-requires-clause-first
ask_under-requires-clause-first c =
    above-size _ c.args.form.now c.in-Ok.first c.in-Ok.ensures ∙ ap (λ (k : ℕ). k + 1) c.requires.form
