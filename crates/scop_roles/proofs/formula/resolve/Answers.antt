use Rattle.scop_syntax.proofs.Common.{rules, ◌<◌, ◌≤◌, [], length, fold, ap, sym, subst, ◌∙◌, arith, drop_all}
use Rattle.scop_expressions.specs.Tree.{size}
use Rattle.scop_expressions.specs.declared.node.Node.TheVariants as node
use Rattle.scop_expressions.specs.Base.TheVariants as base
use Rattle.scop_expressions.specs.Suffix.TheVariants as suffix
use Rattle.scop_roles.specs.Resolving.{built, held, top}
use Rattle.scop_roles.proofs.FormulaStack.{AreBelow, place_below, places_below, read_next}
use Rattle.scop_roles.proofs.formula.resolve.Goals as goal

pub joined-requires : goal.joined-requires
joined-requires g c =
    let t = c.requires.tree in
    let all : AreBelow (size t) c.args.nodes.now =
    subst (λ ns. AreBelow (size t) ns) (sym c.requires.nodes_are) (places_below 0 (size t) t (omega arith)) in
    let less : c.loop-node.node-index < length c.args.nodes.now = search rules in
    let small = place_below (size t) c.args.nodes.now c.loop-node.node-index
    (node.Constant (suffix.Absent base.Decimal) 0) all less in
    let room = c.requires.room in
    omega arith

pub loop-node-preserved : goal.loop-node-preserved
loop-node-preserved g c =
    let look = g.N.Names.lookup c.args.names.now in
    let l = c.loop-node in
    read_next look c.args.first (held l.stack.items) (held c.push.new.stack.items)
    (fold (built look c.args.first) [] c.args.nodes.now) c.args.nodes.now l.node-index
    (node.Constant (suffix.Absent base.Decimal) 0) c.loop-node-test.true (c.in-Ok-push.ensures ∙ c.in-Ok.ensures)
    l.invariant

pub returns : goal.returns
returns g c =
    let past : length c.args.nodes.now ≤ c.loop-node.node-index = search rules in
    c.pop.ensures.top ∙ ap top (rw (drop_all c.loop-node.node-index c.args.nodes.now past) at c.loop-node.invariant)
