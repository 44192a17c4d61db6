use Rattle.scop_syntax.proofs.Common.{◌≡◌, ◌++◌, drop, length}
use Rattle.tile_edges.specs.steps.Rows.{joined, rows_in, starts_from}
use Rattle.tile_edges.proofs.rows.rows_of.Given as goal

abbrev pub invariant-loop-row : goal.invariant-loop-row
invariant-loop-row l = record {
  starts : l.starts.items ++ starts_from (length l.targets.items) (drop l.row-index (rows_in l.pairs))
      ≡ starts_from 0 (rows_in l.pairs);
  targets : l.targets.items ++ joined (drop l.row-index (rows_in l.pairs)) ≡ joined (rows_in l.pairs);
}
