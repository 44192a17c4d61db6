use Rattle.scop_syntax.proofs.Common.{◌∙◌, on_ok_weaker}
use Rattle.dataflow.proofs.LeafShapes.{both_put}
use Rattle.dataflow.proofs.leaf_deps.push_both.Goals as goal

pub returns : goal.returns
returns c =
    on_ok_weaker c.push_targets.result
    (λ put. both_put c.args.loops c.args.others c.args.binds c.args.first.now c.args.second.now c.args.out.now.items
    c.push_sources.new.out.items c.deref.result.now c.push_targets.new.out.items c.in_ok-push_sources.ensures
    (c.deref.ensures.value ∙ c.in_ok-wide.ensures) put) c.push_targets.ensures
