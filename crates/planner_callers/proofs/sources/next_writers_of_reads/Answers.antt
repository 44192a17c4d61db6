use Rattle.scop_syntax.proofs.Common.{[], ap, subst, IfOk-weaker, walk_of}
use Rattle.quast_joins.specs.declared.way.Way.TheVariants.{Earlier}
use Rattle.quast_trees.specs.Postfix.{tree_of}
use Rattle.quast_trees.specs.Value.{value}
use Rattle.dataflow.specs.Places.{Names}
use Rattle.dataflow.specs.ReadSources.{AreSources, reads_in, reads_of}
use Rattle.planner_callers.proofs.NoSources.{no_want, none}
use Rattle.planner_callers.proofs.sources.next_writers_of_reads.Goals as goal

pub returns-clause-sources : goal.returns-clause-sources
returns-clause-sources c = IfOk-weaker c.next_writes.result _ _ (λ v are empty.
    none Earlier c.args.model.now c.args.budget v.items
    (subst (λ rs. AreSources Earlier c.args.model.now c.args.budget rs v.items) (ap reads_in empty) are))
    c.next_writes.ensures.sources

pub returns-clause-next : goal.returns-clause-next
returns-clause-next c = IfOk-weaker c.next_writes.result _ _
    (λ v next program j w access cell k quast is has touches read source none.
    subst (λ o. Names (walk_of program []) (value (tree_of quast) w.turns) o) none
    (next program [] j w access cell k quast is has touches read source))
    c.next_writes.ensures.next

pub returns-clause-told : goal.returns-clause-told
returns-clause-told c = IfOk-weaker c.next_writes.result _ _
    (λ v told k at. no_want c.args.model.now (reads_of c.args.model.now) v.items k told at)
    c.next_writes.ensures.told
