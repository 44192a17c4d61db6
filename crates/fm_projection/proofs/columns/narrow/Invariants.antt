use Rattle.whole_numbers.proofs.Common.{◌≡◌, map, take}
use Rattle.fractions.specs.Elimination.{narrowed}
use Rattle.fm_projection.proofs.columns.narrow.Given as goal

abbrev pub invariant-loop-form : goal.invariant-loop-form
invariant-loop-form l = l.out.items ≡ map (narrowed l.variable) (take l.form-index l.forms)
