-- The first fault so far, and those to come.
use Rattle.scop_syntax.proofs.Common.{◌≡◌, drop, map}
use Rattle.scop_roles.specs.Formula.{formula_of}
use Rattle.scop_roles.specs.Faults.{first, first_of}
use Rattle.scop_units.specs.Units.{extent_faults}
use Rattle.scop_units.proofs.units.extent_fault.Given as goal

abbrev pub invariant-loop-extent : goal.invariant-loop-extent
invariant-loop-extent l =
    first_of l.first (first (extent_faults l.entries (map formula_of (drop l.extent-index l.extents))))
    ≡ first (extent_faults l.entries (map formula_of l.extents))
