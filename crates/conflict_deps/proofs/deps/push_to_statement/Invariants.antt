use Rattle.conflict_deps.proofs.Common.{◌≡◌, ◌++◌, drop, flat_map, deps_between, sides_from, side_of}
use Rattle.conflict_deps.proofs.deps.push_to_statement.Given as goal

abbrev pub invariant-loop-number : goal.invariant-loop-number
invariant-loop-number l =
    l.deps.items ++ flat_map (deps_between l.parameters (side_of l.source))
    (sides_from l.statement l.number (drop l.number l.accesses))
    ≡ l.fn.deps.items ++ flat_map (deps_between l.parameters (side_of l.source)) (sides_from l.statement 0 l.accesses)
