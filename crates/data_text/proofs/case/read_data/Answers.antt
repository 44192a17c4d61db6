-- What a text says has the width of its cells.
use Rattle.scop_syntax.proofs.Common.{◌≡◌, ◌∙◌, ap, IfOk-weaker, program_of}
use Rattle.data_lines.specs.Naming.{line_of}
use Rattle.data_lines.specs.Sheets.{sheet_of}
use Rattle.data_text.specs.Cases.{case_of_lines, case_said, ok_said}
use Rattle.data_text.specs.declared.case.Case.{Case}
use Rattle.data_text.proofs.WidthLemmas.{widths_held}
use Rattle.data_text.proofs.case.read_data.Goals as goal

pub returns-in-Ok-clause-widths : goal.returns-in-Ok-clause-widths
returns-in-Ok-clause-widths c =
    let program = program_of c.args.kernel.now in
    let text = c.args.text.now in
    IfOk-weaker c.case_of.result
    (λ (case : Case). case_said program (sheet_of c.in-Ok.sheet) ≡ ok_said case.params.items case.arrays) _
    (λ case said. widths_held program (line_of text) case.params.items case.arrays
    (c.texts_say_what_lines_describe.ensures.says text program case.params.items case.arrays
    (ap (case_of_lines program) c.in-Ok.ensures.ok ∙ said))) c.case_of.ensures.said
