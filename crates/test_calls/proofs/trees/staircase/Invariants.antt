use Rattle.scop_syntax.proofs.Common.{◌≡◌, pos, [], ◌∷◌, form_of}
use Rattle.quast_trees.specs.Postfix.{tree_of}
use Rattle.quast_trees.specs.Mapped.{Suits}
use Rattle.test_calls.proofs.trees.staircase.Given as goal

abbrev pub invariant-loop-place : goal.invariant-loop-place
invariant-loop-place l = record {
  parameters : l.quast.parameters ≡ 1;
  leaves : Suits (form_of (pos 1 ∷ []) (pos 7) ∷ []) (tree_of l.quast);
}
