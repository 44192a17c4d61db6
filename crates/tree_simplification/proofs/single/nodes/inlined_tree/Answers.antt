use Rattle.tree_simplification.proofs.Common.{◌+◌, List, [], ◌++◌, ap, subst, sym, ◌∙◌, arith, Affine, variables}
use Rattle.tree_simplification.proofs.Common.{nodes_of, trees_in, CanInline, Inlines}
use Rattle.loop_tree.specs.declared.tree.Node.{Node}
use Rattle.tree_simplification.proofs.InlinedNodes.{inlined_whole}
use Rattle.tree_simplification.proofs.Nodes.{alone_gone, at_place, can_at, whole_can}
use Rattle.tree_simplification.proofs.single.nodes.inlined_tree.Goals as goal

pub inline_nodes-requires : goal.inline_nodes-requires
inline_nodes-requires c =
    let p = c.in_ok-place.place in
    let m = c.args.parameters in
    let old = trees_in c.args.tree.now in
    let nested = c.requires.nested in
    let forms = c.in_ok-place.ensures.forms
    ∙ ap (λ (fs : List Affine). fs ++ variables (0 + m) 0 m) c.new.ensures.items in
    let can = whole_can m nested.0 p.forms.items old c.requires.few nested.1 nested.2 forms c.requires.flat
    c.requires.over c.requires.numbers in
    subst (λ (ns : List Node). CanInline p.parameters p.kept p.loops.items p.forms.items (nodes_of ns))
    (sym c.as_slice.ensures.value)
    (can_at m 0 p.parameters p.kept [] p.loops.items p.forms.items old c.in_ok-place.ensures.parameters
    c.in_ok-place.ensures.kept (c.in_ok-place.ensures.loops ∙ c.new.ensures.items) can)

pub returns : goal.returns
returns c =
    let p = c.in_ok-place.place in
    let m = c.args.parameters in
    let old = trees_in c.args.tree.now in
    let out = c.inline_nodes.new.out.items in
    let nested = c.requires.nested in
    let few = c.requires.few in
    let deep = nested.1 in
    let gone =
    alone_gone p.parameters p.kept p.loops.items (nodes_of c.as_slice.result.now) c.new-nodes.result.items out
    c.new-nodes.ensures.items c.in_ok-inline_nodes.ensures in
    let within = subst (λ (ns : List Node). Inlines p.parameters p.kept p.loops.items (nodes_of ns) (nodes_of out))
    c.as_slice.ensures.value gone in
    inlined_whole m nested.0 old (nodes_of out) (omega arith) (omega arith) nested.2
    (at_place (λ i j fs. Inlines i j fs old (nodes_of out)) m 0 p.parameters p.kept [] p.loops.items
    c.in_ok-place.ensures.parameters c.in_ok-place.ensures.kept (c.in_ok-place.ensures.loops ∙ c.new.ensures.items)
    within)
