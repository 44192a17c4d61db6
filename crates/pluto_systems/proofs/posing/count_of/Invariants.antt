use Rattle.scop_syntax.proofs.Common.{◌≡◌, ◌+◌, drop}
use Rattle.pluto_systems.specs.Placing.{columns_in, columns_of}
use Rattle.pluto_systems.proofs.posing.count_of.Given as goal

abbrev pub invariant-loop-at : goal.invariant-loop-at
invariant-loop-at l = l.count + columns_in (drop l.at l.columns.loops.now) ≡ columns_of l.columns.parameters l.columns.loops.now
