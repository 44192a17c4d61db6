use Rattle.scop_syntax.proofs.Common.{◌≡◌, ◌++◌, drop, flat_map}
use Rattle.pluto_systems.specs.Posing.{equalities_for, rows_for}
use Rattle.pluto_systems.proofs.posing.forms_over.Given as goal

abbrev pub invariant-loop-one : goal.invariant-loop-one
invariant-loop-one l =
    (l.equal.items ++ flat_map (equalities_for l.columns.parameters l.columns.loops.now) (drop l.one-index l.ruled)
    ≡ flat_map (equalities_for l.columns.parameters l.columns.loops.now) l.ruled)
    × (l.rows.items ++ flat_map (rows_for l.columns.parameters l.columns.loops.now) (drop l.one-index l.ruled)
    ≡ flat_map (rows_for l.columns.parameters l.columns.loops.now) l.ruled)
