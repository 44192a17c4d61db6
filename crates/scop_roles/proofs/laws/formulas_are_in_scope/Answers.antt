use Rattle.scop_roles.proofs.Places.{in_scope}
use Rattle.scop_roles.proofs.laws.formulas_are_in_scope.Goals as goal

pub returns : goal.returns
returns c ranks look at t k = in_scope ranks look at t k
