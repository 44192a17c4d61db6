use Rattle.scop_syntax.proofs.Common.{[], ap, subst, IfOk-weaker, walk_of}
use Rattle.quast_joins.specs.declared.way.Way.TheVariants.{Later}
use Rattle.quast_trees.specs.Postfix.{tree_of}
use Rattle.quast_trees.specs.Value.{value}
use Rattle.dataflow.specs.Places.{Names}
use Rattle.dataflow.specs.ReadSources.{AreSources, reads_in, reads_of}
use Rattle.planner_callers.proofs.NoSources.{no_want, none}
use Rattle.planner_callers.proofs.sources.sources_of_reads.Goals as goal

pub returns-clause-sources : goal.returns-clause-sources
returns-clause-sources c = IfOk-weaker c.last_writes.result _ _ (λ v are empty.
    none Later c.args.model.now c.args.budget v.items
    (subst (λ rs. AreSources Later c.args.model.now c.args.budget rs v.items) (ap reads_in empty) are))
    c.last_writes.ensures.sources

pub returns-clause-last : goal.returns-clause-last
returns-clause-last c = IfOk-weaker c.last_writes.result _ _
    (λ v last program j w access cell k quast is has touches read source none.
    subst (λ o. Names (walk_of program []) (value (tree_of quast) w.turns) o) none
    (last program [] j w access cell k quast is has touches read source))
    c.last_writes.ensures.last

pub returns-clause-told : goal.returns-clause-told
returns-clause-told c = IfOk-weaker c.last_writes.result _ _
    (λ v told k at. no_want c.args.model.now (reads_of c.args.model.now) v.items k told at)
    c.last_writes.ensures.told
