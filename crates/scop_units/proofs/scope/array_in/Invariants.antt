-- The arrays so far have other names.
use Rattle.scop_syntax.proofs.Common.{◌≡◌, map, drop}
use Rattle.scop_units.specs.Scopes.{array_in}
use Rattle.scop_units.specs.View.{ranked}
use Rattle.scop_units.proofs.scope.array_in.Given as goal

abbrev pub invariant-loop-array : goal.invariant-loop-array
invariant-loop-array l = record {
  place : l.at ≡ l.array-index;
  rest : array_in 0 l.word (map ranked l.arrays) ≡ array_in l.at l.word (map ranked (drop l.array-index l.arrays));
}
