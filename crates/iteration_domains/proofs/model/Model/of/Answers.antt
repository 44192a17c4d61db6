use Rattle.scop_syntax.proofs.Common.{◌≡◌, length, ap, sym, ◌∙◌, rules, length-map, items_of, program_of}
use Rattle.iteration_domains.specs.Path.{scopes_of}
use Rattle.iteration_domains.proofs.TreeStatements.{model_is_one, root_can, root_models}
use Rattle.iteration_domains.proofs.model.Model.of.Goals as goal

pub model_items-requires : goal.model_items-requires
model_items-requires c =
    let p = program_of c.args.kernel.now in
    let count : c.len-parameters.result ≡ length c.args.kernel.now.parameters.items = search rules in
    root_can p c.len-parameters.result (scopes_of c.new.result.items) c.new-2.result.items (items_of c.deref.result.now)
    c.requires (count ∙ sym (length-map c.args.kernel.now.parameters.items (λ n. n.items)))
    (ap scopes_of c.new.ensures.items) c.new-2.ensures.items (ap items_of c.deref.ensures.value)

pub invariant_of-result : goal.invariant_of-result
invariant_of-result c =
    let p = program_of c.args.kernel.now in
    let count : c.len-parameters.result ≡ length c.args.kernel.now.parameters.items = search rules in
    model_is_one p c.len-parameters.result c.model_items.new.statements.items c.requires
    (c.statements_are_numbered.ensures.same p) (c.statements_are_numbered.ensures.number p)
    (root_models p c.len-parameters.result (scopes_of c.new.result.items) c.new-2.result.items
    (items_of c.deref.result.now) c.new-statements.result.items c.model_items.new.statements.items
    (count ∙ sym (length-map c.args.kernel.now.parameters.items (λ n. n.items)))
    (ap scopes_of c.new.ensures.items) c.new-2.ensures.items (ap items_of c.deref.ensures.value)
    c.new-statements.ensures.items c.in_ok-model_items.ensures.statements)

pub returns : goal.returns
returns c =
    let p = program_of c.args.kernel.now in
    let count : c.len-parameters.result ≡ length c.args.kernel.now.parameters.items = search rules in
    root_models p c.len-parameters.result (scopes_of c.new.result.items) c.new-2.result.items
    (items_of c.deref.result.now) c.new-statements.result.items c.model_items.new.statements.items
    (count ∙ sym (length-map c.args.kernel.now.parameters.items (λ n. n.items)))
    (ap scopes_of c.new.ensures.items) c.new-2.ensures.items (ap items_of c.deref.ensures.value)
    c.new-statements.ensures.items c.in_ok-model_items.ensures.statements
