use Rattle.scop_syntax.proofs.Common.{[]}
use Rattle.quast_text.specs.Reading.{AreOuter}
use Rattle.text_callers.proofs.quasts.texts_over_no_names.Goals as goal

pub returns-clause-one : goal.returns-clause-one
returns-clause-one c = λ t u x y first second same.
    let outer : AreOuter [] = record { names = tt; fresh = λ j. tt } in
    (c.texts_are_of_one_quast.ensures.one [] [] t u x y outer first second same).0

pub returns-clause-first : goal.returns-clause-first
returns-clause-first c = λ t x. c.texts_are_of_one_quast.ensures.first [] [] t x
