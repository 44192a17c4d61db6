use Rattle.test_calls.proofs.loop_trees.visits_are.Goals as goal

pub loop-turns-init : goal.loop-turns-init
loop-turns-init c = c.in_ok-spot.ensures.spot c.args.params.now
