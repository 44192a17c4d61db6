use Rattle.schedule_lines.proofs.PrintedLines.{scalar_back}
use Rattle.schedule_lines.proofs.ReadLines.{scalar_read}
use Rattle.schedule_lines.proofs.laws.scalars_are_read_where_they_are_printed.Goals as goal

pub returns-clause-printed : goal.returns-clause-printed
returns-clause-printed c = scalar_back

pub returns-clause-read : goal.returns-clause-read
returns-clause-read c = scalar_read
