use Rattle.conflict_deps.proofs.Common.{◌≡◌, ◌++◌, drop, flat_map, deps_on, sides_from}
use Rattle.conflict_deps.proofs.deps.push_from_statement.Given as goal

abbrev pub invariant-loop-number : goal.invariant-loop-number
invariant-loop-number l =
    l.deps.items ++ flat_map (deps_on l.marked l.model)
    (sides_from l.statement l.number (drop l.number l.accesses))
    ≡ l.fn.deps.items ++ flat_map (deps_on l.marked l.model)
    (sides_from l.statement 0 l.accesses)
