-- The statements so far are the first ones.
use Rattle.scop_syntax.proofs.Common.{◌≡◌, map, range_with_len, tree_of}
use Rattle.kernel_gen.specs.Programs.{chained}
use Rattle.kernel_gen.proofs.chain.statements.Given as goal

abbrev pub invariant-loop-k : goal.invariant-loop-k
invariant-loop-k l = map tree_of l.items.items ≡ map (chained l.seed) (range_with_len 0 l.k)
