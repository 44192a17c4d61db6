use Rattle.conflict_deps.proofs.Common.{◌≡◌, ◌-◌, ◌++◌, map, nat_lt, afters, afters_of, dep_of, loops_of, source_of}
use Rattle.conflict_deps.proofs.Common.{target_of, width_of}
use Rattle.conflict_deps.proofs.deps.push_depths.Given as goal

abbrev pub invariant-loop-equal : goal.invariant-loop-equal
invariant-loop-equal l =
    let s = source_of l.pair in
    let t = target_of l.pair in
    l.deps.items ++ map (dep_of l.pair.parameters s t)
    (afters (width_of l.pair) (loops_of s) l.equal (l.common - l.equal) (nat_lt s.statement.number t.statement.number))
    ≡ l.fn.deps.items ++ map (dep_of l.pair.parameters s t) (afters_of l.pair.parameters s t)
