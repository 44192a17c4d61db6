use Rattle.tree_simplification.proofs.Common.{◌+◌, context_of}
use Rattle.tree_simplification.proofs.RemainingParts.{parts_among, trims_none, trims_on}
use Rattle.tree_simplification.proofs.trimming.trim_parts.Goals as goal

pub loop-init : goal.loop-init
loop-init c =
    trims_none (context_of c.args.context.now) c.args.turned c.args.left.now.items c.args.others.now c.requires.some

pub turn_part-requires-clause-some : goal.turn_part-requires-clause-some
turn_part-requires-clause-some c = c.loop.invariant.some

pub turn_part-requires-clause-left : goal.turn_part-requires-clause-left
turn_part-requires-clause-left c =
    let old = c.args.context.now in
    parts_among (old.loops + old.parameters) c.loop.left.items c.args.left.now.items c.loop.invariant.among
    c.requires.left

pub loop-preserved : goal.loop-preserved
loop-preserved c =
    trims_on (context_of c.args.context.now) c.args.turned c.args.left.now.items c.loop.left.items
    c.turn_part.new.left.items c.args.others.now c.loop.invariant c.in_ok-turn_part.ensures
