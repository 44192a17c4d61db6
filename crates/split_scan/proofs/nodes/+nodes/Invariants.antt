use Rattle.scop_syntax.proofs.Common.{◌≡◌, ◌-◌, ℤ, List, map, take, Affine}
use Rattle.loop_tree.specs.View.{tree_of}
use Rattle.plain_scan.specs.Hulls.{sets_in}
use Rattle.split_scan.specs.steps.Frames.{HasBodies, frame_of, rows_in}
use Rattle.split_scan.proofs.nodes.+nodes.Given as goal

abbrev pub decreases-nodes : goal.decreases-nodes
decreases-nodes l = l.left

abbrev pub invariant-loop-part : goal.invariant-loop-part
invariant-loop-part l =
    (low high : ℤ) (others : List Affine)
    → l.rows.items ≡ rows_in (frame_of l.place l.shape.parameters l.shape.parallel
    (sets_in l.outlines) l.context low high others)
    → HasBodies (l.left - 1) l.shape.parallel
    (frame_of l.place l.shape.parameters l.shape.parallel (sets_in l.outlines) l.context low high others)
    (take l.part-index l.part-items) (map tree_of l.out.items)
