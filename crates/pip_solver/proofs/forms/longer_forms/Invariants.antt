use Rattle.whole_numbers.proofs.Common.{◌≡◌, map, take}
use Rattle.checked_tableau.specs.Nodes.{longer_form}
use Rattle.pip_solver.proofs.forms.longer_forms.Given as goal

abbrev pub invariant-loop-form : goal.invariant-loop-form
invariant-loop-form l = l.all.items ≡ map longer_form (take l.form-index l.forms)
