use Rattle.data_text.proofs.NumeralLemmas.{cells_are_listed}
use Rattle.data_text.proofs.RowLemmas.{row_is_read}
use Rattle.data_text.proofs.laws.array_lines_are_data_lines.Goals as goal

pub returns-clause-line : goal.returns-clause-line
returns-clause-line c = row_is_read

pub returns-clause-cells : goal.returns-clause-cells
returns-clause-cells c = cells_are_listed
