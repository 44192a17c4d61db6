use Rattle.dataflow.proofs.Common.{◌∙◌, refl, subst, sym, All, flat_map, All-get_or, side_of, CanTellWriter}
use Rattle.dataflow.proofs.Common.{deps_of_leaf}
use Rattle.dataflow.proofs.LeafFacts.{given_more}
use Rattle.dataflow.proofs.covers.push_leaves.Goals as goal

pub push_leaf-requires-clause-leaf : goal.push_leaf-requires-clause-leaf
push_leaf-requires-clause-leaf c =
    let P = CanTellWriter c.args.model.now (side_of c.args.reader.now) in
    subst P (sym c.path-item.is)
    (All-get_or P _ c.loop-path.path-index c.path-item.result c.loop-path-test.true
    (subst (All P) (sym (c.deref-path-items.ensures.value ∙ c.in_ok-paths.ensures)) c.requires.leaves))

pub loop-path-preserved : goal.loop-path-preserved
loop-path-preserved c =
    let f = deps_of_leaf c.args.way c.args.model.now (side_of c.args.reader.now) in
    given_more (flat_map f) f (λ p rest. refl) _ c.loop-path.path-index c.path-item.result c.loop-path.out.items
    c.push_leaf.new.out.items _ c.path-item.is c.loop-path-test.true c.loop-path.invariant
    c.in_ok-push_leaf.ensures
