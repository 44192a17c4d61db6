use Rattle.whole_numbers.proofs.Common.{◌∙◌, ap, Affine}
use Rattle.affine_forms.specs.Parts.{variables_of}
use Rattle.pip_solver.proofs.asking.below_somewhere.Goals as goal

pub ask_opposite-requires-clause-form : goal.ask_opposite-requires-clause-form
ask_opposite-requires-clause-form c = ap (λ (f : Affine). variables_of f) c.in-Ok.ensures ∙ c.requires.2
