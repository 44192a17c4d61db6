use Rattle.scop_syntax.proofs.Common.{[], ◌∷◌, refl}
use Rattle.text_callers.specs.Worked.{product}
use Rattle.text_callers.proofs.Product.{in_scope, no_comma, hold_types}
use Rattle.text_callers.proofs.worked_loop.value_of_a_worked_statement.Goals as goal

pub returns-clause-reads : goal.returns-clause-reads
returns-clause-reads c = λ x. c.values_are_words.ensures.reads 1 product (x ∷ []) refl refl

pub returns-clause-value : goal.returns-clause-value
returns-clause-value c = λ x held.
    c.values_are_words.ensures.value (1 ∷ []) 1 product (x ∷ []) held refl in_scope no_comma refl
    (hold_types held (x ∷ []))
