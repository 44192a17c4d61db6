use Rattle.scop_syntax.proofs.Common.{◌∙◌, ap, subst, ◌++◌, ap₂, trees_of}
use Rattle.scop_units.specs.Judging.{body_scope, items_at, first_scope, others_at}
use Rattle.scop_units.specs.Scopes.{no_scope}
use Rattle.scop_units.specs.Words.{words_of}
use Rattle.scop_arithmetic.specs.Meaning.{MeanAt, DeclaresAt, DeclareAt}
use Rattle.text_callers.proofs.meanings.programs_mean_their_texts.Goals as goal

pub returns-clause-parameters : goal.returns-clause-parameters
returns-clause-parameters c = λ text p x. (c.spelled_texts_mean_their_programs.ensures text p x).parameters

pub returns-clause-names : goal.returns-clause-names
returns-clause-names c = λ text p x. (c.spelled_texts_mean_their_programs.ensures text p x).names

pub returns-clause-body : goal.returns-clause-body
returns-clause-body c = λ text p x none.
    let body = (c.spelled_texts_mean_their_programs.ensures text p x).body in
    let words = words_of text x.tokens in
    let empty = subst (λ is. MeanAt words (body_scope words x.kernel) (items_at x.kernel) is body.0) none body.2 in
    body.1 ∙ ap trees_of empty

pub returns-clause-arrays : goal.returns-clause-arrays
returns-clause-arrays c = λ text p x one others.
    let arrays = (c.spelled_texts_mean_their_programs.ensures text p x).arrays in
    let words = words_of text x.tokens in
    let first = subst (λ q. DeclaresAt words no_scope 3 q arrays.0) one arrays.3 in
    let rest =
    subst (λ qs. DeclareAt words (first_scope words x.kernel) (others_at x.kernel) qs arrays.1) others arrays.4 in
    arrays.2 ∙ ap₂ (λ es fs. es ++ fs) first rest
