-- The nodes so far, in front of those to come, are all of them; a call has fewer steps.
use Rattle.scop_syntax.proofs.Common.{◌≡◌, ◌+◌, ◌-◌, ◌*◌, map, program_of}
use Rattle.loop_tree.specs.View.{tree_of}
use Rattle.c_printer.specs.Reading.{read_nodes}
use Rattle.c_printer.proofs.ReadSteps.{nodes_before}
use Rattle.c_printer.proofs.read_nodes.+reading.Given as goal

abbrev pub decreases-read_nodes : goal.decreases-read_nodes
decreases-read_nodes l = 4 * l.steps

abbrev pub decreases-read_node : goal.decreases-read_node
decreases-read_node l = 4 * l.steps + 3

abbrev pub decreases-read_parallel : goal.decreases-read_parallel
decreases-read_parallel l = 4 * l.steps + 2

abbrev pub decreases-read_loop : goal.decreases-read_loop
decreases-read_loop l = 4 * l.steps + 1

abbrev pub decreases-read_guard : goal.decreases-read_guard
decreases-read_guard l = 4 * l.steps + 1

abbrev pub invariant-read_nodes-loop-at : goal.invariant-read_nodes-loop-at
invariant-read_nodes-loop-at l =
    nodes_before (map tree_of l.nodes.items)
    (read_nodes (program_of l.place.source.now) (l.steps - l.at) l.place.level l.place.loops l.rest)
    ≡ read_nodes (program_of l.place.source.now) l.steps l.place.level l.place.loops l.text
