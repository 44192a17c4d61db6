use Rattle.whole_numbers.proofs.Common.{◌≡◌, ◌+◌, ◌-◌, ◌++◌}
use Rattle.fractions.specs.Farkas.{own_rows}
use Rattle.farkas.proofs.matching.last_rows.Given as goal

abbrev pub invariant-loop-at : goal.invariant-loop-at
invariant-loop-at l = l.rows.items ++ own_rows (l.before + l.at) (l.count - l.at) ≡ own_rows l.before l.count
