use Rattle.lexmin_runs.proofs.Trees.{lexmin-right}
use Rattle.lexmin_runs.proofs.KeptSolutions.{lexmin-speaks, lexmin-forms}
use Rattle.lexmin_runs.proofs.laws.trees_are_right.Goals as goal

pub returns : goal.returns
returns c = record { answers = lexmin-right; speaks = lexmin-speaks; forms = lexmin-forms }
