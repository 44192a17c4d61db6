use Rattle.conflict_deps.proofs.Common.{◌≡◌, ◌++◌, ap, subst, sym, ◌∙◌, All, flat_map, HaveOneCount, deps_between}
use Rattle.conflict_deps.proofs.Common.{sides_of, side_of}
use Rattle.conflict_deps.proofs.GatheredDependences.{statement_has, statements_step}
use Rattle.conflict_deps.proofs.deps.push_from_access.Goals as goal

pub push_to_statement-requires-clause-statement : goal.push_to_statement-requires-clause-statement
push_to_statement-requires-clause-statement c =
    statement_has (λ t. t.domain.parameters ≡ c.args.model.now.parameters) c.statements-statement-items.result.now
    c.loop-statement.statement-index c.statement-item.result c.statements-statement-items.ensures.parameters
    c.statement-item.is c.loop-statement-test.true
    ∙ sym c.parameters-parameters.ensures.parameters

pub push_to_statement-requires-clause-one : goal.push_to_statement-requires-clause-one
push_to_statement-requires-clause-one c =
    let P = HaveOneCount c.args.source.now.statement.now in
    statement_has P c.statements-statement-items.result.now c.loop-statement.statement-index c.statement-item.result
    (subst (All P) (sym c.statements-statement-items.ensures.statements) c.requires.one)
    c.statement-item.is c.loop-statement-test.true

pub loop-statement-preserved : goal.loop-statement-preserved
loop-statement-preserved c =
    let m = c.args.model.now.parameters in
    let s = side_of c.args.source.now in
    statements_step (deps_between m s) c.statements-statement-items.result.now c.loop-statement.statement-index
    c.statement-item.result c.loop-statement.deps.items c.push_to_statement.new.deps.items
    (c.args.deps.now.items ++ flat_map (deps_between m s) (flat_map sides_of c.statements-statement-items.result.now))
    c.statement-item.is c.loop-statement-test.true c.loop-statement.invariant
    (c.in_ok-push_to_statement.ensures ∙ ap (λ k. c.loop-statement.deps.items ++ flat_map (deps_between k s)
    (sides_of c.statement-item.result)) c.parameters-parameters.ensures.parameters)
