-- The forms so far, and those to come, which have no faults.
use Rattle.scop_syntax.proofs.Common.{◌≡◌, ◌++◌, drop, map, None}
use Rattle.scop_roles.specs.Formula.{formula_of}
use Rattle.scop_roles.specs.Forms.{form}
use Rattle.scop_roles.specs.Faults.{first}
use Rattle.scop_units.specs.Scopes.{entries}
use Rattle.scop_units.specs.Units.{extent_faults}
use Rattle.scop_units.specs.View.{scope_of}
use Rattle.scop_units.proofs.units.array_of.Given as goal

abbrev pub invariant-loop-extent : goal.invariant-loop-extent
invariant-loop-extent l = record {
  forms : l.forms.items ++ map (form (entries (scope_of l.scope))) (map formula_of (drop l.extent-index l.extents))
      ≡ map (form (entries (scope_of l.scope))) (map formula_of l.extents);
  clean : first (extent_faults (entries (scope_of l.scope)) (map formula_of (drop l.extent-index l.extents))) ≡ None;
}
