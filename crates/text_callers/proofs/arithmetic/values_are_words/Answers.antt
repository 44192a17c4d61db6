use Rattle.scop_syntax.proofs.Common.{refl, []}
use Rattle.text_callers.proofs.arithmetic.values_are_words.Goals as goal

pub returns-clause-reads : goal.returns-clause-reads
returns-clause-reads c = λ f. c.values_are_words.ensures.reads 0 f [] refl

pub returns-clause-value : goal.returns-clause-value
returns-clause-value c = λ f held. c.values_are_words.ensures.value [] 0 f [] held refl
