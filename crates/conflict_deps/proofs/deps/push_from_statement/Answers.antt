use Rattle.conflict_deps.proofs.Common.{◌++◌, List, flat_map, Dependence, Side, deps_on, sides_from}
use Rattle.conflict_deps.proofs.GatheredDependences.{pair_can, sides_step}
use Rattle.conflict_deps.proofs.deps.push_from_statement.Goals as goal

pub push_unmarked-requires-clause-source : goal.push_unmarked-requires-clause-source
push_unmarked-requires-clause-source c =
    pair_can c.args.model.now.parameters c.args.statement.now c.loop-number.number _ c.accesses-accesses.result.now
    c.accesses-accesses.ensures.dimensions c.accesses-accesses.ensures.few c.requires.statement
    c.accesses-accesses.ensures.narrow c.index-accesses-number.is c.loop-number-test.true

pub loop-number-preserved : goal.loop-number-preserved
loop-number-preserved c =
    let model = c.args.model.now in
    let f : Side → List Dependence = deps_on c.args.marked.now model in
    sides_step f c.args.statement.now c.accesses-accesses.result.now c.loop-number.number
    c.index-accesses-number.result c.loop-number.deps.items c.push_unmarked.new.deps.items
    (c.args.deps.now.items ++ flat_map f (sides_from c.args.statement.now 0 c.accesses-accesses.result.now))
    c.index-accesses-number.is c.loop-number-test.true c.loop-number.invariant c.in_ok-push_unmarked.ensures
