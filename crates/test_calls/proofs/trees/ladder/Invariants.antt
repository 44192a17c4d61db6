use Rattle.scop_syntax.proofs.Common.{◌≡◌}
use Rattle.quast_trees.specs.Postfix.{tree_of}
use Rattle.quast_joins.specs.Limits.{leaf_limit}
use Rattle.quast_joins.specs.Sizes.{LeavesWithin}
use Rattle.test_calls.proofs.trees.ladder.Given as goal

abbrev pub invariant-loop-place : goal.invariant-loop-place
invariant-loop-place l = record {
  parameters : l.quast.parameters ≡ 1;
  within : LeavesWithin leaf_limit (tree_of l.quast);
}
