use Rattle.scop_syntax.proofs.Common.{◌+◌, ◌-◌, []}
use Rattle.loop_tree.specs.View.{nodes_of}
use Rattle.plain_scan.specs.Hulls.{sets_in}
use Rattle.plain_scan.specs.steps.Nodes.{IsNode}
use Rattle.plain_scan.proofs.tree_of_sets.scan_outlines.Given as goal

abbrev pub invariant-loop-depth : goal.invariant-loop-depth
invariant-loop-depth l =
    IsNode l.depth (l.all.dimensions - l.depth) (l.all.dimensions - l.depth + l.all.parameters) l.all.parallel
    (sets_in l.all.outlines.items) [] (nodes_of l.nodes.items)
