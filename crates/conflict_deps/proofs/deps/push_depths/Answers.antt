use Rattle.conflict_deps.proofs.Common.{◌++◌, map, arith, nat_lt, afters_of, dep_of, source_of, target_of}
use Rattle.conflict_deps.proofs.Sides.{common_right}
use Rattle.conflict_deps.proofs.Shapes.{depths_step}
use Rattle.conflict_deps.proofs.deps.push_depths.Goals as goal

pub push_dep-requires-clause-equal : goal.push_dep-requires-clause-equal
push_dep-requires-clause-equal c =
    let few = common_right c.loops.result.now c.loops-2.result.now in
    let is = c.common_loops-common.ensures in
    let named = c.loops-2.ensures.dimensions in
    let test = c.loop-equal-test.true in
    omega arith

pub push_dep-requires-clause-later : goal.push_dep-requires-clause-later
push_dep-requires-clause-later c =
    let few = common_right c.loops.result.now c.loops-2.result.now in
    let is = c.common_loops-common.ensures in
    let named = c.loops-2.ensures.dimensions in
    let test = c.loop-equal-test.true in
    λ yes. omega arith

pub push_dep-requires-then-number-clause-equal : goal.push_dep-requires-then-number-clause-equal
push_dep-requires-then-number-clause-equal c =
    let few = common_right c.loops.result.now c.loops-2.result.now in
    let is = c.common_loops-common.ensures in
    let named = c.loops-2.ensures.dimensions in
    omega arith

pub loop-equal-preserved : goal.loop-equal-preserved
loop-equal-preserved c =
    let m = c.args.pair.now.parameters in
    let s = source_of c.args.pair.now in
    let t = target_of c.args.pair.now in
    depths_step m s t c.common_loops-common.result c.loop-equal.equal (nat_lt s.statement.number t.statement.number)
    c.loop-equal.deps.items c.push_dep.new.deps.items
    (c.args.deps.now.items ++ map (dep_of m s t) (afters_of m s t)) c.loop-equal-test.true c.loop-equal.invariant
    c.in_ok-push_dep.ensures
