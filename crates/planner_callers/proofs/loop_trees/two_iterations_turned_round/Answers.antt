use Rattle.planner_callers.proofs.loop_trees.two_iterations_turned_round.Goals as goal

pub returns-clause-upwards : goal.returns-clause-upwards
returns-clause-upwards c = c.two_iterations_in_both_orders.ensures.upwards

pub returns-clause-downwards : goal.returns-clause-downwards
returns-clause-downwards c = c.two_iterations_in_both_orders.ensures.downwards

pub returns-clause-serial : goal.returns-clause-serial
returns-clause-serial c = c.two_iterations_in_both_orders.ensures.serial

pub returns-clause-no_other : goal.returns-clause-no_other
returns-clause-no_other c = c.two_iterations_in_both_orders.ensures.no_other
