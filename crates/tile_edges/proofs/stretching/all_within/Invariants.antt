use Rattle.scop_syntax.proofs.Common.{◌≤◌}
use Rattle.tile_edges.proofs.stretching.all_within.Given as goal

abbrev pub invariant-loop-row : goal.invariant-loop-row
invariant-loop-row l = l.least ≤ l.most
