use Rattle.whole_numbers.proofs.Common.{◌≡◌, drop}
use Rattle.checked_tableau.specs.Nodes.{none_below}
use Rattle.pip_solver.proofs.asking.none_below.Given as goal

abbrev pub invariant-loop-form : goal.invariant-loop-form
invariant-loop-form l = none_below (drop l.form-index l.forms) ≡ none_below l.forms
