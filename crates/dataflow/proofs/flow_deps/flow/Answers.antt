use Rattle.dataflow.proofs.Common.{◌+◌, All, drop, map, subst, sym, All-drop, flat_map, In, member_at, AreLastSourcesOf}
use Rattle.dataflow.proofs.Common.{IsResolved, flow_from, read_sides, tree_in, reads_in, reads_of_statement}
use Rattle.dataflow.proofs.FlowReads.{OwnSources, flow_step, own_sources}
use Rattle.dataflow.proofs.flow_deps.flow.Goals.{After-reads_in}
use Rattle.dataflow.proofs.flow_deps.flow.Goals as goal

own : (c : After-reads_in) → OwnSources c.args.model.now c.statement-item.result
    (drop (c.loop-statement.statement-index + 1) c.statements-statement-items.result.now) c.reads_in.result
    c.loop-statement.rest.now
own c =
    own_sources c.args.model.now c.statements-statement-items.result.now c.loop-statement.statement-index
    c.statement-item.result c.reads_in.result c.loop-statement.rest.now c.statement-item.is c.loop-statement-test.true
    c.reads_in.ensures c.loop-statement.invariant.order

pub split_at-requires : goal.split_at-requires
split_at-requires c = (own (goal.at.split_at-requires c).After-reads_in).few

pub push_reads-requires-clause-statement : goal.push_reads-requires-clause-statement
push_reads-requires-clause-statement c =
    subst (In c.statement-item.result) c.statements-statement-items.ensures.statements
    (member_at c.statements-statement-items.result.now c.loop-statement.statement-index c.statement-item.result
    c.statement-item.is c.loop-statement-test.true)

pub push_reads-requires-clause-sources : goal.push_reads-requires-clause-sources
push_reads-requires-clause-sources c =
    subst (AreLastSourcesOf c.args.model.now (reads_of_statement c.statement-item.result)) (sym c.split_at.ensures.front)
    (own (goal.at.push_reads-requires-clause-sources c).After-reads_in).own

pub loop-statement-preserved : goal.loop-statement-preserved
loop-statement-preserved c =
    let model = c.args.model.now in
    let items = c.statements-statement-items.result.now in
    let at = c.loop-statement.statement-index in
    let o = own (goal.at.loop-statement-preserved c).After-reads_in in
    record {
      gathered = flow_step model items at c.statement-item.result c.reads_in.result c.loop-statement.rest.now
          c.split_at.result.0.now c.split_at.result.1.now c.loop-statement.deps.items c.push_reads.new.out.items
          (flow_from model (flat_map read_sides items) (map tree_in c.args.sources.now)) c.statement-item.is
          c.loop-statement-test.true c.reads_in.ensures o.few c.split_at.ensures.front c.split_at.ensures.back
          c.loop-statement.invariant.gathered c.in_ok-push_reads.ensures;
      order = subst (AreLastSourcesOf model (reads_in (drop (at + 1) items))) (sym c.split_at.ensures.back) o.others;
      resolved = subst (All IsResolved) (sym c.split_at.ensures.back)
          (All-drop IsResolved c.reads_in.result c.loop-statement.rest.now c.loop-statement.invariant.resolved);
    }
