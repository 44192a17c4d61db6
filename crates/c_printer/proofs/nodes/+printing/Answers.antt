use Rattle.scop_syntax.proofs.Common.{rules, ◌≡◌, ◌≤◌, OnOk, arith, length, refl, subst, program_of}
use Rattle.scop_lexer.specs.Bytes.{Text}
use Rattle.c_printer.specs.Nodes.{closing_text, nodes_text}
use Rattle.loop_tree.specs.View.{nodes_of}
use Rattle.loop_tree.proofs.Weights.{node_weight, node_here}
use Rattle.c_printer.proofs.PutTexts.{all_put, behind, node_put}
use Rattle.c_printer.proofs.nodes.+printing.Goals as goal

pub put_nodes-put_node-requires : goal.put_nodes-put_node-requires
put_nodes-put_node-requires t c =
    let nodes = c.args.nodes.now in
    let heavy = node_weight nodes c.loop-node.node-index c.node-item.result c.node-item.is c.loop-node-test.true in
    omega (arith, heavy)

pub put_nodes-loop-node-preserved : goal.put_nodes-loop-node-preserved
put_nodes-loop-node-preserved t c =
    let l = c.loop-node in
    let nodes = c.args.nodes.now in
    let here = node_here nodes l.node-index c.node-item.result c.node-item.is c.loop-node-test.true in
    node_put _ _ _ _ _ _ l.out.items c.put_repeated.new.out.items c.put_node.new.out.items _ here c.in-Ok.ensures
    c.in-Ok-put_node.ensures l.invariant

pub put_nodes-returns : goal.put_nodes-returns
put_nodes-returns t c =
    let l = c.loop-node in
    let nodes = c.args.nodes.now in
    let place = c.args.place.now in
    let past : length nodes ≤ l.node-index = search rules in
    all_put (λ ns. nodes_text (program_of place.source.now) place.level place.loops (nodes_of ns)) nodes l.node-index
    l.out.items _ refl past l.invariant

pub put_body-returns : goal.put_body-returns
put_body-returns t c =
    let inner = c.args.inner.now in
    subst (λ (x : Text). OnOk c.put_closing.result (c.put_closing.new.out.items ≡ x))
    (behind c.args.out.now.items c.put_nodes.new.out.items
    (nodes_text (program_of inner.source.now) inner.level inner.loops (nodes_of c.args.body.now))
    (closing_text c.args.level) c.in_ok-put_nodes.ensures) c.put_closing.ensures
