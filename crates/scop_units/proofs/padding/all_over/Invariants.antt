-- What is made, and what is to come.
use Rattle.scop_syntax.proofs.Common.{◌≡◌, ◌++◌, drop, map}
use Rattle.scop_units.specs.Units.{declared_over}
use Rattle.scop_units.proofs.padding.all_over.Given as goal

abbrev pub invariant-loop-array : goal.invariant-loop-array
invariant-loop-array l =
    l.made.items ++ map (declared_over l.count) (drop l.array-index l.arrays) ≡ map (declared_over l.count) l.arrays
