use Rattle.array_words.proofs.opening_state.start.Goals as goal

pub returns-clause-words : goal.returns-clause-words
returns-clause-words c = c.in_ok-words.ensures.rest.of

pub returns-clause-passes : goal.returns-clause-passes
returns-clause-passes c = c.in_ok-passes.ensures.unused.are

pub returns-clause-idle : goal.returns-clause-idle
returns-clause-idle c = c.in_ok-passes.ensures.unused.idle

pub returns-clause-unmoved : goal.returns-clause-unmoved
returns-clause-unmoved c = c.in_ok-passes.ensures.unused.unmoved
