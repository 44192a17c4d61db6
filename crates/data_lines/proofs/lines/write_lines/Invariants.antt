-- What the lines so far have written, and the lines to come, are what all lines say.
use Rattle.scop_syntax.proofs.Common.{◌≡◌, ◌+◌, ◌≤◌, length, Ok, program_of}
use Rattle.data_lines.specs.Words.{lines_of}
use Rattle.data_lines.specs.Sheets.{IsSheetOf, sheet_of}
use Rattle.data_lines.specs.Entries.{with_lines}
use Rattle.data_lines.proofs.lines.write_lines.Given as goal

abbrev pub invariant-loop-stop : goal.invariant-loop-stop
invariant-loop-stop l = record {
  rest : with_lines (program_of l.kernel) l.number (Ok (sheet_of l.sheet)) (lines_of l.rest)
      ≡ with_lines (program_of l.kernel) 1 (Ok (sheet_of l.fn.sheet)) (lines_of l.text);
  shape : IsSheetOf (program_of l.kernel) (sheet_of l.sheet);
  few : l.number + length l.rest ≤ length l.text + 1;
}

abbrev pub decreases-loop-stop : goal.decreases-loop-stop
decreases-loop-stop l = length l.rest
