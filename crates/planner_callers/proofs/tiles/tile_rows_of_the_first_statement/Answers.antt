use Rattle.planner_callers.proofs.tiles.tile_rows_of_the_first_statement.Goals as goal

pub returns-clause-rows : goal.returns-clause-rows
returns-clause-rows c = λ blocks m at. c.rows_that_are_not_parallel_carry.ensures.rows blocks 0 0 m at

pub returns-clause-count : goal.returns-clause-count
returns-clause-count c = λ blocks. c.rows_that_are_not_parallel_carry.ensures.count blocks 0
