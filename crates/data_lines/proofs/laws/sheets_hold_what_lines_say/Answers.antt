use Rattle.data_lines.proofs.HoldingLemmas.{line_breaks, lines_in_order, sheet_holds}
use Rattle.data_lines.proofs.laws.sheets_hold_what_lines_say.Goals as goal

pub returns-clause-holds : goal.returns-clause-holds
returns-clause-holds c = sheet_holds

pub returns-clause-order : goal.returns-clause-order
returns-clause-order c = lines_in_order

pub returns-clause-breaks : goal.returns-clause-breaks
returns-clause-breaks c = line_breaks
