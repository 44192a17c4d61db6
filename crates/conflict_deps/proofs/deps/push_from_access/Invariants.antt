use Rattle.conflict_deps.proofs.Common.{◌≡◌, ◌++◌, drop, flat_map, deps_between, sides_of, side_of}
use Rattle.conflict_deps.proofs.deps.push_from_access.Given as goal

abbrev pub invariant-loop-statement : goal.invariant-loop-statement
invariant-loop-statement l =
    l.deps.items ++ flat_map (deps_between l.model.parameters (side_of l.source))
    (flat_map sides_of (drop l.statement-index l.statement-items))
    ≡ l.fn.deps.items ++ flat_map (deps_between l.model.parameters (side_of l.source)) (flat_map sides_of
    l.statement-items)
