use Rattle.conflict_deps.proofs.Common.{◌++◌, ap, ◌∙◌, flat_map, Constraints, deps_between, sides_from, side_of}
use Rattle.conflict_deps.proofs.GatheredDependences.{pair_can, sides_step}
use Rattle.conflict_deps.proofs.deps.push_to_statement.Goals as goal

pub invariant_of-pair : goal.invariant_of-pair
invariant_of-pair c = record {
  few = c.requires.few;
  first = c.requires.source;
  second = pair_can c.args.parameters c.args.statement.now c.loop-number.number _ c.accesses-accesses.result.now
      c.accesses-accesses.ensures.dimensions c.accesses-accesses.ensures.few c.requires.statement
      c.accesses-accesses.ensures.narrow c.index-accesses-number.is c.loop-number-test.true;
  one = c.requires.one;
  turns = c.dimensions-loops.ensures ∙ ap (λ (z : Constraints). z.dimensions) c.domain.ensures;
  other_turns = c.dimensions-others.ensures ∙ ap (λ (z : Constraints). z.dimensions) c.domain-2.ensures;
}

pub loop-number-preserved : goal.loop-number-preserved
loop-number-preserved c =
    let m = c.args.parameters in
    let s = side_of c.args.source.now in
    sides_step (deps_between m s) c.args.statement.now c.accesses-accesses.result.now c.loop-number.number
    c.index-accesses-number.result c.loop-number.deps.items c.push_between.new.deps.items
    (c.args.deps.now.items ++ flat_map (deps_between m s) (sides_from c.args.statement.now 0
    c.accesses-accesses.result.now))
    c.index-accesses-number.is c.loop-number-test.true c.loop-number.invariant c.in_ok-push_between.ensures
