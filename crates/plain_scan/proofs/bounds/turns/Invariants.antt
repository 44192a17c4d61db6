use Rattle.scop_syntax.proofs.Common.{◌≡◌, ◌+◌, ◌-◌, ◌++◌}
use Rattle.plain_scan.specs.Sets.{place_forms}
use Rattle.plain_scan.proofs.bounds.turns.Given as goal

abbrev pub invariant-loop-turn : goal.invariant-loop-turn
invariant-loop-turn l =
    l.out.items ++ place_forms l.variables (l.first + l.turn) (l.set.iterators - l.turn)
    ≡ place_forms l.variables l.first l.set.iterators
