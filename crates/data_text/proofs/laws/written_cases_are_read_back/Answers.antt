use Rattle.data_text.proofs.WrittenLemmas.{text_describes}
use Rattle.data_text.specs.Written.{case_text}
use Rattle.data_text.proofs.laws.written_cases_are_read_back.Goals as goal

pub returns : goal.returns
returns c = λ program params contents is.
    c.texts_say_what_lines_describe.ensures.described (case_text program params contents) program params contents
    (text_describes (record { extents = c.cells_lie_within_22_bits.ensures.extents }) program params contents is)
