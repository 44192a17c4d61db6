use Rattle.scop_syntax.proofs.Common.{[]}
use Rattle.planner_callers.proofs.flows.flow_in_kernels_without_parameters.Goals as goal

pub returns-clause-trees : goal.returns-clause-trees
returns-clause-trees c = λ program trees v w has are first second last.
    c.flow_holds_the_sources.ensures.trees program [] 0 trees has are 0 1 v w 0 first second last

pub returns-clause-sources : goal.returns-clause-sources
returns-clause-sources c = λ program sources v w has are told first second last.
    c.flow_holds_the_sources.ensures.sources program [] sources has are told 0 1 v w 0 first second last
