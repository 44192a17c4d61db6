use Rattle.scop_syntax.proofs.Common.{[], ◌∷◌, true}
use Rattle.planner_callers.proofs.loop_trees.visits_of_one_parallel_loop.Goals as goal

pub returns-clause-parallel : goal.returns-clause-parallel
returns-clause-parallel c = λ ts v marks among.
    c.marks_are_the_parallel_loops.ensures.parallel (true ∷ []) ts [] [] marks v among

pub returns-clause-turns : goal.returns-clause-turns
returns-clause-turns c = λ ts v shows among.
    c.marks_are_the_parallel_loops.ensures.turns (λ key. []) ts [] [] shows v among
