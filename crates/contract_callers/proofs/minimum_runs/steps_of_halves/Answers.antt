use Rattle.scop_syntax.proofs.Common.{pos}
use Rattle.tableau_rows.specs.Run.{spent}
use Rattle.contract_callers.specs.Halves.{above, at_zero, bound, first, given, opposite, solved, zero_leaf}
use Rattle.contract_callers.proofs.NodeSteps.{binds_one, ended, goes_on, parts, stopped}
use Rattle.contract_callers.proofs.minimum_runs.steps_of_halves.Goals as goal

pub returns-clause-step : goal.returns-clause-step
returns-clause-step c = λ node. c.runs_go_on_by_steps.ensures.step 1 0 node

pub returns-clause-ends : goal.returns-clause-ends
returns-clause-ends c = λ frames. c.runs_go_on_by_steps.ensures.ends 1 1 at_zero frames zero_leaf 0 ended

pub returns-clause-goes : goal.returns-clause-goes
returns-clause-goes c = λ frames. c.runs_go_on_by_steps.ensures.goes 1 4 above solved frames 0 goes_on

pub returns-clause-binds : goal.returns-clause-binds
returns-clause-binds c = λ frames.
    c.runs_go_on_by_steps.ensures.binds 1 3 solved bound frames given (pos 2) 0 binds_one

pub returns-clause-splits : goal.returns-clause-splits
returns-clause-splits c = λ frames.
    c.runs_go_on_by_steps.ensures.splits 1 2 first at_zero above frames opposite 0 parts

pub returns-clause-stops : goal.returns-clause-stops
returns-clause-stops c = λ frames. c.runs_go_on_by_steps.ensures.stops 1 0 first frames spent stopped
