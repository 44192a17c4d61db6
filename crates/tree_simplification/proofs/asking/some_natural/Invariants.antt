use Rattle.scop_syntax.proofs.Common.{⊤}
use Rattle.tree_simplification.proofs.asking.some_natural.Given as goal

abbrev pub invariant-loop-part : goal.invariant-loop-part
invariant-loop-part l = ⊤
