use Rattle.scop_syntax.proofs.Common.{take, instance_of}
use Rattle.loop_tree.proofs.Stretches.{first_held}
use Rattle.loop_tree.proofs.stretch.Stretch.next.Goals as goal

pub step-requires-clause-fits : goal.step-requires-clause-fits
step-requires-clause-fits c =
    let s = c.args.self.now in
    first_held s.before.statement (instance_of s.before).turns (take s.before.loops s.steps) s.left c.requires.some
    c.requires.held
