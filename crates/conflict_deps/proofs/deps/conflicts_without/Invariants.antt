use Rattle.conflict_deps.proofs.Common.{◌≡◌, ◌++◌, drop, flat_map, deps_on, sides_of}
use Rattle.conflict_deps.proofs.deps.conflicts_without.Given as goal

abbrev pub invariant-loop-statement : goal.invariant-loop-statement
invariant-loop-statement l =
    l.deps.items ++ flat_map (deps_on l.marked l.model)
    (flat_map sides_of (drop l.statement-index l.statement-items))
    ≡ flat_map (deps_on l.marked l.model) (flat_map sides_of
    l.statement-items)
