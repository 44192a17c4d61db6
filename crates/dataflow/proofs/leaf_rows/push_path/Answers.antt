use Rattle.dataflow.specs.steps.LeafSteps.{HoldsRows}
use Rattle.dataflow.proofs.LeafLoops.{next_binds, next_over, path_ends, path_more, path_starts, turn_has}
use Rattle.dataflow.proofs.leaf_rows.push_path.Goals as goal

pub loop-turn-init : goal.loop-turn-init
loop-turn-init c =
    path_starts c.args.layout c.args.out.now.items c.args.turns.now c.requires.over c.requires.binds

pub push_turn-requires-clause-over : goal.push_turn-requires-clause-over
push_turn-requires-clause-over c =
    next_over c.args.layout c.args.out.now.items c.args.turns.now c.loop-turn.turn-index c.loop-turn.bound
    c.loop-turn.out.items c.turn-item.result c.turn-item.is c.loop-turn-test.true c.loop-turn.invariant

pub push_turn-requires-clause-more : goal.push_turn-requires-clause-more
push_turn-requires-clause-more c =
    next_binds c.args.layout c.args.out.now.items c.args.turns.now c.loop-turn.turn-index c.loop-turn.bound
    c.loop-turn.out.items c.turn-item.result c.turn-item.is c.loop-turn-test.true c.loop-turn.invariant

pub push_turn-requires-clause-held : goal.push_turn-requires-clause-held
push_turn-requires-clause-held c =
    turn_has HoldsRows c.args.turns.now c.loop-turn.turn-index c.turn-item.result c.requires.held c.turn-item.is
    c.loop-turn-test.true

pub loop-turn-preserved : goal.loop-turn-preserved
loop-turn-preserved c =
    path_more c.args.layout c.args.out.now.items c.args.turns.now c.loop-turn.turn-index c.loop-turn.bound
    c.loop-turn.out.items c.push_turn.new.out.items c.turn-item.result c.binds_of-bound.result c.turn-item.is
    c.loop-turn-test.true c.loop-turn.invariant c.in_ok-push_turn.ensures c.binds_of-bound.ensures

pub returns : goal.returns
returns c =
    path_ends c.args.layout c.args.out.now.items c.args.turns.now c.loop-turn.turn-index c.loop-turn.bound
    c.loop-turn.out.items c.loop-turn-test.false c.loop-turn.invariant
