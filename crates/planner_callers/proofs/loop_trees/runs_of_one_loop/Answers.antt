use Rattle.scop_syntax.proofs.Common.{[], true}
use Rattle.loop_tree.specs.Tree.{none}
use Rattle.planner_callers.proofs.loop_trees.runs_of_one_loop.Goals as goal

pub returns-clause-iterations : goal.returns-clause-iterations
returns-clause-iterations c = λ lo up body zs run.
    let is = c.loops_interleave_their_iterations.ensures.iterations true lo up body [] [] zs run in
    (is.within, is.runs)

pub returns-clause-parallel : goal.returns-clause-parallel
returns-clause-parallel c = λ lo up body zs within runs.
    c.loops_interleave_their_iterations.ensures.parallel lo up body [] [] zs (record { within = within; runs = runs })

pub returns-clause-serial : goal.returns-clause-serial
returns-clause-serial c = λ lo up zs is turn.
    c.loops_interleave_their_iterations.ensures.serial lo up none [] [] zs is turn

pub returns-clause-in_turn : goal.returns-clause-in_turn
returns-clause-in_turn c = λ lo up zs run.
    c.loops_interleave_their_iterations.ensures.in_turn lo up none [] [] zs run
