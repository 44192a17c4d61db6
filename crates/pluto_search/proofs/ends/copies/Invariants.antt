use Rattle.scop_syntax.proofs.Common.{◌≡◌, ◌++◌, map, drop}
use Rattle.pluto_systems.specs.Posing.{dep_of}
use Rattle.pluto_search.proofs.ends.copies.Given as goal

abbrev pub invariant-loop-at : goal.invariant-loop-at
invariant-loop-at l = l.deps.items ++ map dep_of (drop l.at l.ruled) ≡ map dep_of l.ruled
