use Rattle.dataflow.proofs.Common.{◌≡◌, subst, In, flat_map, member_at, sides_of, covers_at}
use Rattle.conflict_deps.proofs.GatheredDependences.{statement_has, statements_step}
use Rattle.dataflow.proofs.covers.covering.Goals as goal

pub push_statement-requires-clause-parameters : goal.push_statement-requires-clause-parameters
push_statement-requires-clause-parameters c =
    statement_has (λ t. t.domain.parameters ≡ c.args.model.now.parameters) c.statements-statement-items.result.now
    c.loop-statement.statement-index c.statement-item.result c.statements-statement-items.ensures.parameters
    c.statement-item.is c.loop-statement-test.true

pub push_statement-requires-clause-statement : goal.push_statement-requires-clause-statement
push_statement-requires-clause-statement c =
    subst (In c.statement-item.result) c.statements-statement-items.ensures.statements
    (member_at c.statements-statement-items.result.now c.loop-statement.statement-index c.statement-item.result
    c.statement-item.is c.loop-statement-test.true)

pub loop-statement-preserved : goal.loop-statement-preserved
loop-statement-preserved c =
    let f = covers_at c.args.budget c.args.marked.now c.args.model.now in
    statements_step f c.statements-statement-items.result.now c.loop-statement.statement-index
    c.statement-item.result c.loop-statement.deps.items c.push_statement.new.out.items
    (flat_map f (flat_map sides_of c.statements-statement-items.result.now))
    c.statement-item.is c.loop-statement-test.true c.loop-statement.invariant c.in_ok-push_statement.ensures
