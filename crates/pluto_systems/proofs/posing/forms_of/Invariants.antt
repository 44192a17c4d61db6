use Rattle.scop_syntax.proofs.Common.{◌≡◌, ◌++◌, flat_map}
use Rattle.pluto_systems.specs.Posing.{equalities_for, rows_for, ruled_deps}
use Rattle.pluto_systems.proofs.DependenceSystems.{rest, AreSizedTo}
use Rattle.pluto_systems.proofs.posing.forms_of.Given as goal

abbrev pub invariant-loop-at : goal.invariant-loop-at
invariant-loop-at l =
    (l.equal.items ++ flat_map (equalities_for l.columns.parameters l.columns.loops.now) (rest l.deps l.legal l.bounded l.at)
    ≡ flat_map (equalities_for l.columns.parameters l.columns.loops.now) (ruled_deps l.deps l.legal l.bounded))
    × (l.rows.items ++ flat_map (rows_for l.columns.parameters l.columns.loops.now) (rest l.deps l.legal l.bounded l.at)
    ≡ flat_map (rows_for l.columns.parameters l.columns.loops.now) (ruled_deps l.deps l.legal l.bounded))
    × AreSizedTo (ruled_deps l.deps l.legal l.bounded) (rest l.deps l.legal l.bounded l.at)
