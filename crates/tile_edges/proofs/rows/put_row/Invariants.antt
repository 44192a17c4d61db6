use Rattle.scop_syntax.proofs.Common.{◌≡◌, ◌++◌}
use Rattle.tile_edges.proofs.rows.put_row.Given as goal

abbrev pub invariant-loop-key : goal.invariant-loop-key
invariant-loop-key l = l.targets.items ++ l.key-iterator ≡ l.fn.targets.items ++ l.row.keys
