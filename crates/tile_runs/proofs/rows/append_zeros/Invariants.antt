use Rattle.scop_syntax.proofs.Common.{◌≡◌, ◌++◌, replicate}
use Rattle.tile_runs.proofs.rows.append_zeros.Given as goal

abbrev pub invariant-loop : goal.invariant-loop
invariant-loop l = l.row.items ≡ l.fn.row.items ++ replicate l.counter 0
