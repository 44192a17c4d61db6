use Rattle.scop_syntax.proofs.Common.{Err}
use Rattle.data_text.specs.Cases.{ok_said}
use Rattle.data_text.proofs.DescribedLemmas.{LineLaws, SheetLaws, text_tells}
use Rattle.data_text.proofs.OneCaseLemmas.{described_is_said}
use Rattle.data_text.proofs.laws.texts_say_what_lines_describe.Goals as goal

pub returns : goal.returns
returns c =
    let sheets : SheetLaws = record {
      holds = c.sheets_hold_what_lines_say.ensures.holds;
      order = c.sheets_hold_what_lines_say.ensures.order;
      breaks = c.sheets_hold_what_lines_say.ensures.breaks;
    } in
    let lines : LineLaws = record {
      value = c.lines_say_one_thing.ensures.value;
      cells = c.lines_say_one_thing.ensures.cells;
      seed = c.lines_say_one_thing.ensures.seed;
      either = c.lines_say_one_thing.ensures.either;
      sound = c.sound_lines_break_no_rule.ensures;
    } in
    record {
      says = λ text program params contents. text_tells sheets lines program text (ok_said params contents);
      described = described_is_said sheets lines;
      breaks = λ text program refusal. text_tells sheets lines program text (Err refusal);
    }
