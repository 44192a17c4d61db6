-- The names so far are others.
use Rattle.scop_syntax.proofs.Common.{◌≡◌, map, drop}
use Rattle.scop_units.specs.Scopes.{number_from}
use Rattle.scop_units.proofs.scope.number_of.Given as goal

abbrev pub invariant-loop-name : goal.invariant-loop-name
invariant-loop-name l = record {
  place : l.at ≡ l.name-index;
  rest : number_from 0 l.word (map (λ n. n.items) l.names)
      ≡ number_from l.at l.word (map (λ n. n.items) (drop l.name-index l.names));
}
