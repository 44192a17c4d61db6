use Rattle.scop_syntax.proofs.Common.{refl, []}
use Rattle.text_callers.proofs.arithmetic.statements_store_words.Goals as goal

pub returns-clause-place : goal.returns-clause-place
returns-clause-place c = λ s. c.statements_store_words.ensures.place 0 s [] refl

pub returns-clause-reads : goal.returns-clause-reads
returns-clause-reads c = λ s. c.statements_store_words.ensures.reads 0 s [] refl

pub returns-clause-right : goal.returns-clause-right
returns-clause-right c = λ s held. c.statements_store_words.ensures.right [] 0 s [] held refl
