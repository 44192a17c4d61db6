use Rattle.dataflow.proofs.Common.{rules, List, subst, ◌<◌, ◌^◌, In, member_at, Modelled, AreSources, reads_in}
use Rattle.dataflow.proofs.Common.{reads_of}
use Rattle.dataflow.proofs.CandidateRuns.{Gathered, all_gathered, dropped, statement_gathered}
use Rattle.dataflow.proofs.reads.sources_of.Goals.{After-loop-statement}
use Rattle.dataflow.proofs.reads.sources_of.Goals as goal

pub push_reads-requires-clause-statement : goal.push_reads-requires-clause-statement
push_reads-requires-clause-statement c =
    subst (λ (ss : List Modelled). In c.statement-item.result ss) c.statements-statement-items.ensures.statements
    (member_at c.statements-statement-items.result.now c.loop-statement.statement-index c.statement-item.result
    c.statement-item.is c.loop-statement-test.true)

pub loop-statement-preserved : goal.loop-statement-preserved
loop-statement-preserved c =
    statement_gathered c.args.way c.args.model.now c.args.budget c.statements-statement-items.result.now
    c.loop-statement.statement-index c.statement-item.result c.loop-statement.sources.items
    c.push_reads.new.sources.items c.statement-item.is c.loop-statement-test.true c.loop-statement.invariant
    c.in_ok-push_reads.ensures

-- all reads have their sources
sources : (c : After-loop-statement) → AreSources c.args.way c.args.model.now c.args.budget (reads_of c.args.model.now)
    c.loop-statement.sources.items
sources c =
    let model = c.args.model.now in
    let items = c.statements-statement-items.result.now in
    let sources = c.loop-statement.sources.items in
    let none = dropped items c.loop-statement.statement-index c.loop-statement-test.false in
    subst (λ (ss : List Modelled). AreSources c.args.way model c.args.budget (reads_in ss) sources)
    c.statements-statement-items.ensures.statements
    (all_gathered c.args.way model c.args.budget (reads_in items) sources
    (subst (λ (ss : List Modelled). Gathered c.args.way model c.args.budget (reads_in items) (reads_in ss) sources) none
    c.loop-statement.invariant))

pub returns-clause-sources : goal.returns-clause-sources
returns-clause-sources c = sources (goal.at.returns-clause-sources c).After-loop-statement

pub returns-clause-told : goal.returns-clause-told
returns-clause-told c =
    let small : c.args.budget < 2 ^ 64 = search rules in
    c.sources_are_told.ensures c.args.way c.args.model.now c.args.budget c.loop-statement.sources.items c.requires small
    (sources (goal.at.returns-clause-told c).After-loop-statement)
