use Rattle.scop_syntax.proofs.Common.{[], ◌∷◌, refl}
use Rattle.text_callers.specs.Worked.{sum}
use Rattle.text_callers.proofs.Product.{in_scope, no_comma, hold_types}
use Rattle.text_callers.proofs.worked_loop.a_worked_statement.Goals as goal

pub returns-clause-place : goal.returns-clause-place
returns-clause-place c = λ x. c.statements_store_words.ensures.place 1 sum (x ∷ []) refl refl

pub returns-clause-reads : goal.returns-clause-reads
returns-clause-reads c = λ x. c.statements_store_words.ensures.reads 1 sum (x ∷ []) refl refl

pub returns-clause-right : goal.returns-clause-right
returns-clause-right c = λ x held.
    c.statements_store_words.ensures.right (1 ∷ []) 1 sum (x ∷ []) held refl in_scope no_comma refl
    (hold_types held (x ∷ []))
