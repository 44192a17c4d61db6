-- What is made, and what is to come.
use Rattle.scop_syntax.proofs.Common.{◌≡◌, ◌++◌, drop, map}
use Rattle.scop_units.specs.Units.{padded}
use Rattle.scop_units.proofs.padding.padded_all.Given as goal

abbrev pub invariant-loop-form : goal.invariant-loop-form
invariant-loop-form l =
    l.made.items ++ map (padded l.count) (drop l.form-index l.forms) ≡ map (padded l.count) l.forms
