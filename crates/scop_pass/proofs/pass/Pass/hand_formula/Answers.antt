use Rattle.scop_pass.proofs.pass.Pass.hand_formula.Goals as goal

pub returns-in-Condition : goal.returns-in-Condition
returns-in-Condition c = rw c.in-Condition.is c.guarded-opened.ensures

pub returns-in-LoopNamed : goal.returns-in-LoopNamed
returns-in-LoopNamed c = rw c.in-LoopNamed.is c.hold.ensures

pub returns-in-LoopFirst : goal.returns-in-LoopFirst
returns-in-LoopFirst c = rw c.in-LoopFirst.is c.hold-in-LoopFirst.ensures

pub returns-in-LoopStep : goal.returns-in-LoopStep
returns-in-LoopStep c = rw c.in-LoopStep.is c.change_whole.ensures

pub returns-in-Placed : goal.returns-in-Placed
returns-in-Placed c = rw c.in-Placed.is c.subscript.ensures

pub returns-in-Valued : goal.returns-in-Valued
returns-in-Valued c = rw c.in-Valued.is c.valued-done.ensures

pub returns-in-Idle : goal.returns-in-Idle
returns-in-Idle c = rw c.in-Idle.is c.unwanted.ensures

pub returns-in-LoopBegun : goal.returns-in-LoopBegun
returns-in-LoopBegun c = rw c.in-LoopBegun.is c.unwanted-in-LoopBegun.ensures
