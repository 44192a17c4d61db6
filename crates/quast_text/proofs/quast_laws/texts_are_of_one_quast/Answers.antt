use Rattle.whole_numbers.proofs.Common.{refl}
use Rattle.quast_text.proofs.Quasts.{FormLaws, one_quast, quast_first}
use Rattle.quast_text.proofs.quast_laws.texts_are_of_one_quast.Goals as goal

pub returns-clause-one : goal.returns-clause-one
returns-clause-one c = λ loops outer t u x y o a b e.
    let forms : FormLaws = record {
      back = c.forms_are_read_back.ensures;
      one = c.texts_are_of_one_form.ensures;
      at_least = c.forms_end_before.ensures.at_least;
      comma = c.forms_end_before.ensures.comma;
      parenthesis = c.forms_end_before.ensures.parenthesis;
      divisor = c.forms_end_before.ensures.divisor;
    } in
    one_quast forms loops outer 0 _ t u x y o refl a b e

pub returns-clause-first : goal.returns-clause-first
returns-clause-first c = λ loops outer t x a e. quast_first loops outer 0 _ t x a e
