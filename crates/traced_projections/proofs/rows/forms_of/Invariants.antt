use Rattle.whole_numbers.proofs.Common.{◌≡◌, ◌++◌, drop}
use Rattle.traced_projections.specs.Tracing.{forms_of}
use Rattle.traced_projections.proofs.rows.forms_of.Given as goal

abbrev pub invariant-loop-row : goal.invariant-loop-row
invariant-loop-row l = l.out.items ++ forms_of (drop l.row-index l.rows) ≡ forms_of l.rows
