use Rattle.whole_numbers.proofs.Common.{◌≡◌, ◌+◌, ◌++◌, drop}
use Rattle.traced_projections.specs.Tracing.{numbered}
use Rattle.traced_projections.proofs.rows.push_numbered.Given as goal

abbrev pub invariant-loop-at : goal.invariant-loop-at
invariant-loop-at l =
    l.rows.items ++ numbered (l.first + l.at) (drop l.at l.forms) ≡ l.fn.rows.items ++ numbered l.first l.forms
