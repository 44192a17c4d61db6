-- Nothing is said of the arrays so far.
use Rattle.scop_syntax.proofs.Common.{◌≡◌, ◌≤◌, ◌-◌, length, map, replicate}
use Rattle.data_lines.specs.Sheets.{given_of, nothing}
use Rattle.data_lines.proofs.sheet.empty_rows.Given as goal

abbrev pub invariant-loop-rows : goal.invariant-loop-rows
invariant-loop-rows l = record {
  nothing_said : map given_of l.rows.items ≡ replicate (length l.rows.items) nothing;
  within : length l.rows.items ≤ l.count;
}

abbrev pub decreases-loop-rows : goal.decreases-loop-rows
decreases-loop-rows l = l.count - length l.rows.items
