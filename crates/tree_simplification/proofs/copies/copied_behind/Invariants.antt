use Rattle.scop_syntax.proofs.Common.{◌≡◌, ◌++◌, ◌∷◌, drop}
use Rattle.tree_simplification.proofs.copies.copied_behind.Given as goal

abbrev pub invariant-loop-part : goal.invariant-loop-part
invariant-loop-part l = l.out.items ++ drop l.part-index l.others ≡ l.first ∷ l.others
