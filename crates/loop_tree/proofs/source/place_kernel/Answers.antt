use Rattle.scop_syntax.proofs.Common.{◌≡◌, length, ap, sym, ◌∙◌, rules, length-map, items_of, program_of}
use Rattle.iteration_domains.specs.Path.{scopes_of}
use Rattle.loop_tree.proofs.Placings.{root_place, root_sources}
use Rattle.loop_tree.proofs.source.place_kernel.Goals as goal

pub place_items-requires : goal.place_items-requires
place_items-requires c =
    let p = program_of c.args.kernel.now in
    let count : c.len-parameters.result ≡ length c.args.kernel.now.parameters.items = search rules in
    root_place p c.len-parameters.result (scopes_of c.new.result.items) c.new-2.result.items
    (items_of c.deref.result.now)
    c.requires (count ∙ sym (length-map c.args.kernel.now.parameters.items (λ n. n.items)))
    (ap scopes_of c.new.ensures.items) c.new-2.ensures.items (ap items_of c.deref.ensures.value)

pub returns : goal.returns
returns c =
    let p = program_of c.args.kernel.now in
    let count : c.len-parameters.result ≡ length c.args.kernel.now.parameters.items = search rules in
    c.in_ok-nodes.ensures.nodes
    ∙ root_sources p c.len-parameters.result (scopes_of c.new.result.items) c.new-2.result.items
    (items_of c.deref.result.now) (count ∙ sym (length-map c.args.kernel.now.parameters.items (λ n. n.items)))
    (ap scopes_of c.new.ensures.items) c.new-2.ensures.items (ap items_of c.deref.ensures.value)
