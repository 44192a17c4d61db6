use Rattle.report_text.proofs.SourceTexts.{one_deps_text}
use Rattle.report_text.proofs.deps_laws.deps_texts_are_read_in_one_way.Goals as goal

pub returns : goal.returns
returns c = λ program a b distinct words told other same.
    one_deps_text (record {
      one = c.texts_are_of_one_quast.ensures.one;
      first = c.texts_are_of_one_quast.ensures.first;
    }) program a b distinct words told other same
