use Rattle.tree_simplification.specs.steps.ContextView.{context_of}
use Rattle.tree_simplification.proofs.Contexts.{natural_part}
use Rattle.tree_simplification.proofs.asking.some_natural.Goals as goal

pub returns-then-branch : goal.returns-then-branch
returns-then-branch c same =
    natural_part (context_of c.args.context.now) c.args.lows.now c.loop-part.part-index c.part-item.result
    c.requires.lows c.part-item.is c.loop-part-test.true c.requires.natural
    (c.in_ok-starts_natural.ensures c.if-branch.true)
