use Rattle.scop_syntax.proofs.Common.{rules, ◌≡◌, ◌∙◌, ◌+◌, ◌-◌, ◌<◌, ◌∷◌, [], ap, map, subst, IfOk, Option, Some, None}
use Rattle.scop_syntax.proofs.Common.{codes, map-append, program_of}
use Rattle.scop_lexer.specs.Bytes.{Text}
use Rattle.loop_tree.specs.Tree.{Tree}
use Rattle.loop_tree.specs.View.{tree_of}
use Rattle.form_text.specs.Reading.{strip}
use Rattle.c_printer.specs.Nodes.{indent}
use Rattle.c_printer.specs.Reading.{read_node, read_nodes}
use Rattle.c_printer.specs.steps.View.{node_in}
use Rattle.c_printer.proofs.ReadSteps.{parallel_node, loop_node, guard_node, nodes_more, nodes_stop, nodes_end}
use Rattle.c_printer.proofs.read_nodes.+reading.Goals as goal

pub read_node-returns-in-Some : goal.read_node-returns-in-Some
read_node-returns-in-Some t c =
    let a = c.args in
    let program = program_of a.place.now.source.now in
    let text = a.text.now in
    let behind = c.in-Some.behind.now in
    let some : Some behind ≡ strip (codes "#pragma omp parallel for\n") text = search rules in
    subst (λ (o : Option (Tree × Text)). IfOk c.read_parallel.result (λ r. node_in r ≡ o))
    (parallel_node (read_nodes program a.steps) program a.steps a.place.now.level a.place.now.loops text behind some)
    c.read_parallel.ensures

pub read_node-returns-in-Some-strip : goal.read_node-returns-in-Some-strip
read_node-returns-in-Some-strip t c =
    let a = c.args in
    let program = program_of a.place.now.source.now in
    let text = a.text.now in
    let behind = c.in-Some-strip.behind.now in
    let none : None ≡ strip (codes "#pragma omp parallel for\n") text = search rules in
    let some : Some behind ≡ strip (codes "for (int64_t ") text = search rules in
    subst (λ (o : Option (Tree × Text)). IfOk c.read_loop.result (λ r. node_in r ≡ o))
    (loop_node (read_nodes program a.steps) program a.steps a.place.now.level a.place.now.loops text behind none some)
    c.read_loop.ensures

pub read_node-returns-in-Some-strip-2 : goal.read_node-returns-in-Some-strip-2
read_node-returns-in-Some-strip-2 t c =
    let a = c.args in
    let program = program_of a.place.now.source.now in
    let text = a.text.now in
    let behind = c.in-Some-strip-2.behind.now in
    let none : None ≡ strip (codes "#pragma omp parallel for\n") text = search rules in
    let alone : None ≡ strip (codes "for (int64_t ") text = search rules in
    let some : Some behind ≡ strip (codes "if (") text = search rules in
    subst (λ (o : Option (Tree × Text)). IfOk c.read_guard.result (λ r. node_in r ≡ o))
    (guard_node (read_nodes program a.steps) program a.steps a.place.now.level a.place.now.loops text behind none alone
    some)
    c.read_guard.ensures

pub read_nodes-returns-in_default : goal.read_nodes-returns-in_default
read_nodes-returns-in_default t c =
    let l = c.loop-at in
    let a = c.args in
    let program = program_of a.place.now.source.now in
    let level = a.place.now.level in
    let loops = a.place.now.loops in
    let h : l.at < a.steps = search rules in
    let none : None ≡ strip (indent level) l.rest.now = search rules in
    nodes_end program a.steps l.at level loops (map tree_of l.nodes.items) l.rest.now
    (read_nodes program a.steps level loops a.text.now) h none l.invariant

pub read_nodes-returns-in-Ok-None : goal.read_nodes-returns-in-Ok-None
read_nodes-returns-in-Ok-None t c =
    let l = c.loop-at in
    let a = c.args in
    let program = program_of a.place.now.source.now in
    let level = a.place.now.level in
    let loops = a.place.now.loops in
    let left = a.steps - (l.at + 1) in
    let behind = c.in-Some.behind.now in
    let h : l.at < a.steps = search rules in
    let some : Some behind ≡ strip (indent level) l.rest.now = search rules in
    let none : None ≡ read_node (read_nodes program left) program left level loops behind = search rules in
    nodes_stop program a.steps l.at level loops (map tree_of l.nodes.items) l.rest.now behind
    (read_nodes program a.steps level loops a.text.now) h some none l.invariant

pub read_nodes-loop-at-preserved : goal.read_nodes-loop-at-preserved
read_nodes-loop-at-preserved t c =
    let l = c.loop-at in
    let a = c.args in
    let program = program_of a.place.now.source.now in
    let level = a.place.now.level in
    let loops = a.place.now.loops in
    let left = a.steps - (l.at + 1) in
    let behind = c.in-Some.behind.now in
    let node = c.in-Ok-Some.node in
    let h : l.at < a.steps = search rules in
    let some : Some behind ≡ strip (indent level) l.rest.now = search rules in
    let is : Some (tree_of node.part, node.rest.now)
    ≡ read_node (read_nodes program left) program left level loops behind = search rules in
    let pushed = ap (map tree_of) c.in-Ok.ensures.pushed ∙ map-append tree_of l.nodes.items (node.part ∷ []) in
    nodes_more program a.steps l.at level loops (map tree_of l.nodes.items) (map tree_of c.push.new.list.items)
    (tree_of node.part) l.rest.now behind node.rest.now (read_nodes program a.steps level loops a.text.now) h some
    pushed is l.invariant
