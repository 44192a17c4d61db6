-- A dependence with one constraint more, behind those that stand.
use Rattle.std.specs.Prelude.{[], ◌∷◌, ◌++◌}
use Rattle.whole_numbers.specs.Affine.{Affine}
use Rattle.iteration_domains.specs.Dependence.{Dependence}

-- with an equality
abbrev pub equality_behind : Dependence → Affine → Dependence
equality_behind dep f = record dep { system = record dep.system { equalities = dep.system.equalities ++ f ∷ [] } }

-- with a row
abbrev pub row_behind : Dependence → Affine → Dependence
row_behind dep f = record dep { system = record dep.system { rows = dep.system.rows ++ f ∷ [] } }
