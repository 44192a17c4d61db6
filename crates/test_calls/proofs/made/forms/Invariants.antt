use Rattle.scop_syntax.proofs.Common.{◌≡◌, All}
use Rattle.affine_forms.specs.Parts.{variables_of}
use Rattle.test_calls.proofs.made.forms.Given as goal

abbrev pub invariant-loop-row : goal.invariant-loop-row
invariant-loop-row l = All (λ f. variables_of f ≡ l.variables) l.forms.items
