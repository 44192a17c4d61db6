use Rattle.text_callers.proofs.quasts.worked_texts.Goals as goal

pub returns-clause-copy : goal.returns-clause-copy
returns-clause-copy c = c.texts_of_two_kernels.ensures.copy

pub returns-clause-even : goal.returns-clause-even
returns-clause-even c = c.texts_of_two_kernels.ensures.even
