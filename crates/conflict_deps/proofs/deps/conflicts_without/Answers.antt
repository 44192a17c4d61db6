use Rattle.conflict_deps.proofs.Common.{◌≡◌, List, subst, All, flat_map, Dependence, HaveOneCount, Side, deps_on}
use Rattle.conflict_deps.proofs.Common.{sides_of}
use Rattle.conflict_deps.proofs.GatheredDependences.{statement_has, statements_step}
use Rattle.conflict_deps.proofs.deps.conflicts_without.Goals as goal

pub push_from_statement-requires-clause-statement : goal.push_from_statement-requires-clause-statement
push_from_statement-requires-clause-statement c =
    statement_has (λ t. t.domain.parameters ≡ c.args.model.now.parameters) c.statements-statement-items.result.now
    c.loop-statement.statement-index c.statement-item.result c.statements-statement-items.ensures.parameters
    c.statement-item.is c.loop-statement-test.true

pub push_from_statement-requires-clause-one : goal.push_from_statement-requires-clause-one
push_from_statement-requires-clause-one c =
    subst (All (HaveOneCount c.statement-item.result)) c.statements-statement-items.ensures.statements
    (statement_has (λ t. All (HaveOneCount t) c.statements-statement-items.result.now)
    c.statements-statement-items.result.now c.loop-statement.statement-index c.statement-item.result
    c.statements-statement-items.ensures.numbers c.statement-item.is c.loop-statement-test.true)

pub loop-statement-preserved : goal.loop-statement-preserved
loop-statement-preserved c =
    let model = c.args.model.now in
    let f : Side → List Dependence = deps_on c.args.marked.now model in
    statements_step f c.statements-statement-items.result.now c.loop-statement.statement-index
    c.statement-item.result c.loop-statement.deps.items c.push_from_statement.new.deps.items
    (flat_map f (flat_map sides_of c.statements-statement-items.result.now))
    c.statement-item.is c.loop-statement-test.true c.loop-statement.invariant c.in_ok-push_from_statement.ensures
