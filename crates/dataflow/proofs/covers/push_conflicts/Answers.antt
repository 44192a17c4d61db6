use Rattle.dataflow.proofs.Common.{◌++◌, ◌∷◌, [], is_in_role, chosen_deps}
use Rattle.dataflow.proofs.LeafFacts.{chosen_next, given_more}
use Rattle.dataflow.proofs.covers.push_conflicts.Goals as goal

pub loop-dep-preserved : goal.loop-dep-preserved
loop-dep-preserved c =
    let test = is_in_role c.args.way c.args.statement c.args.access in
    given_more (chosen_deps test) (λ d. chosen_deps test (d ∷ [])) (chosen_next test) c.args.deps.now
    c.loop-dep.dep-index c.dep-item.result c.loop-dep.out.items c.push_conflict.new.out.items
    (c.args.out.now.items ++ chosen_deps test c.args.deps.now) c.dep-item.is c.loop-dep-test.true
    c.loop-dep.invariant c.in_ok-push_conflict.ensures
