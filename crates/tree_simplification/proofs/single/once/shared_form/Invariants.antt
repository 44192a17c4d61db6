use Rattle.scop_syntax.proofs.Common.{⊤}
use Rattle.tree_simplification.proofs.single.once.shared_form.Given as goal

abbrev pub invariant-loop-part : goal.invariant-loop-part
invariant-loop-part l = ⊤
