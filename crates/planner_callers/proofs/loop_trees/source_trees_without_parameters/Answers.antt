use Rattle.scop_syntax.proofs.Common.{[], ap, length, subst, sym}
use Rattle.loop_tree.specs.Shape.{TreesAreOver}
use Rattle.loop_tree.specs.Source.{source_of}
use Rattle.planner_callers.proofs.loop_trees.source_trees_without_parameters.Goals as goal

pub returns-clause-visits : goal.returns-clause-visits
returns-clause-visits c = λ program kernel none.
    c.source_trees_visit_the_walk.ensures.visits program [] kernel (sym (ap length none))

pub returns-clause-walk : goal.returns-clause-walk
returns-clause-walk c = λ program has. c.source_trees_visit_the_walk.ensures.walk program [] has

pub returns-clause-over : goal.returns-clause-over
returns-clause-over c = λ program kernel none.
    subst (λ n. TreesAreOver n (source_of program)) (ap length none)
    (c.source_trees_visit_the_walk.ensures.over program kernel)

pub returns-clause-instances : goal.returns-clause-instances
returns-clause-instances c = λ program none. c.source_trees_visit_the_walk.ensures.instances program

pub returns-clause-small : goal.returns-clause-small
returns-clause-small c = λ program kernel none. c.source_trees_visit_the_walk.ensures.small program kernel
