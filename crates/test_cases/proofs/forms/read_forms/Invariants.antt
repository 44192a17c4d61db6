use Rattle.std.proofs.Common.{◌≡◌, All}
use Rattle.affine_forms.specs.Parts.{variables_of}
use Rattle.test_cases.proofs.forms.read_forms.Given as goal

abbrev pub invariant-loop : goal.invariant-loop
invariant-loop l = All (λ f. variables_of f ≡ l.variables) l.forms.items
