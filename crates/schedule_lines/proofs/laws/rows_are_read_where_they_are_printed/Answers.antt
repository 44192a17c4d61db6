use Rattle.schedule_lines.proofs.PrintedLines.{row_back}
use Rattle.schedule_lines.proofs.ReadLines.{row_read}
use Rattle.schedule_lines.proofs.laws.rows_are_read_where_they_are_printed.Goals as goal

pub returns-clause-printed : goal.returns-clause-printed
returns-clause-printed c = row_back

pub returns-clause-read : goal.returns-clause-read
returns-clause-read c = row_read
