use Rattle.scop_syntax.proofs.Common.{◌≡◌, [], length, subst, IfOk-weaker, program_of}
use Rattle.iteration_domains.specs.Path.{path_at}
use Rattle.loop_tree.specs.Source.{sources}
use Rattle.loop_tree.specs.View.{trees_in}
use Rattle.planner_callers.proofs.plans.kept_tree.Goals as goal

pub returns : goal.returns
returns c = IfOk-weaker c.source_tree.result _ _
    (λ t is none. subst
    (λ body. trees_in t ≡ sources (path_at (length (program_of c.args.kernel.now).parameters) [] []) body 0) none is)
    c.source_tree.ensures.own
