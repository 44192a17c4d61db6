use Rattle.scop_syntax.proofs.Common.{◌≡◌, [], ap, length, subst, sym, IfOk-weaker, program_of}
use Rattle.iteration_domains.specs.Path.{path_at}
use Rattle.loop_tree.specs.Shape.{TreesAreOver}
use Rattle.loop_tree.specs.Source.{sources}
use Rattle.loop_tree.specs.View.{trees_in}
use Rattle.planner_callers.proofs.loop_trees.source_tree.Goals as goal

pub returns-clause-tree : goal.returns-clause-tree
returns-clause-tree c = IfOk-weaker c.of_source.result _ _
    (λ t is none. subst
    (λ body. trees_in t ≡ sources (path_at (length (program_of c.args.kernel.now).parameters) [] []) body 0) none is)
    c.of_source.ensures.tree

pub returns-clause-visits : goal.returns-clause-visits
returns-clause-visits c = IfOk-weaker c.of_source.result _ _ (λ t visit none. visit [] (sym (ap length none)))
    c.of_source.ensures.visits

pub returns-clause-walk : goal.returns-clause-walk
returns-clause-walk c = IfOk-weaker c.of_source.result _ _ (λ t walk. walk []) c.of_source.ensures.walk

pub returns-clause-over : goal.returns-clause-over
returns-clause-over c = IfOk-weaker c.of_source.result _ _
    (λ t over none. subst (λ n. TreesAreOver n (trees_in t)) (ap length none) over) c.of_source.ensures.over

pub returns-clause-instances : goal.returns-clause-instances
returns-clause-instances c = c.of_source.ensures.instances

pub returns-clause-small : goal.returns-clause-small
returns-clause-small c = c.of_source.ensures.small
