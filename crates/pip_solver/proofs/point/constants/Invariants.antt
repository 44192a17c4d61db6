use Rattle.whole_numbers.proofs.Common.{◌≡◌, map, take}
use Rattle.pip_solver.proofs.point.constants.Given as goal

abbrev pub invariant-loop-form : goal.invariant-loop-form
invariant-loop-form l = l.all.items ≡ map (λ f. f.constant) (take l.form-index l.forms)
