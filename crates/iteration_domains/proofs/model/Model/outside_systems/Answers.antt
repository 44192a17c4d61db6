use Rattle.scop_syntax.proofs.Common.{◌≡◌, ◌∙◌, List, ap, subst, layout, In, program_of, member_at}
use Rattle.iteration_domains.specs.Model.{KernelModel, Modelled, model_of}
use Rattle.iteration_domains.specs.Outside.{outside_statement}
use Rattle.iteration_domains.proofs.Asking.{statement_can}
use Rattle.iteration_domains.proofs.OutsideSteps.{piece_more}
use Rattle.iteration_domains.proofs.model.Model.outside_systems.Goals as goal

pub push_statement-requires : goal.push_statement-requires
push_statement-requires c =
    let p = program_of c.args.kernel.now in
    let ss : List Modelled = c.deref-statement-items.result.now in
    let s = c.statement-item.result in
    let are : ss ≡ (model_of p).statements =
    c.deref-statement-items.ensures.value
    ∙ (ap (λ (m : KernelModel). m.statements) c.self.view_is
    ∙ ap (λ (m : KernelModel). m.statements) c.requires.model) in
    statement_can p c.args.params.now s c.requires.params
    (c.cells_lie_within_22_bits.ensures.extents p c.args.params.now c.requires.params)
    (λ q among. c.statements_are_numbered.ensures.placed p q c.requires.kernel among)
    (subst (In s) are (member_at ss c.loop-statement.statement-index s c.statement-item.is c.loop-statement-test.true))

pub loop-statement-preserved : goal.loop-statement-preserved
loop-statement-preserved c =
    let p = program_of c.args.kernel.now in
    let params = c.args.params.now in
    piece_more (outside_statement (layout p params) params) c.deref-statement-items.result.now
    c.loop-statement.statement-index c.statement-item.result c.loop-statement.systems.items
    c.push_statement.new.out.items _ c.loop-statement-test.true c.statement-item.is c.in_ok-push_statement.ensures
    c.loop-statement.invariant
