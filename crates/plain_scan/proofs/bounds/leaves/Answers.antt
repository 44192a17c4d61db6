use Rattle.scop_syntax.proofs.Common.{◌∙◌, ap, map}
use Rattle.loop_tree.specs.View.{trees_of}
use Rattle.plain_scan.specs.Hulls.{leaf_tree}
use Rattle.plain_scan.proofs.CodeBounds.{leaves_are, take_all}
use Rattle.plain_scan.proofs.bounds.leaves.Goals as goal

pub returns : goal.returns
returns c =
    let os = c.args.outlines.now in
    let all = take_all os c.loop-outline.outline-index c.loop-outline-test.false in
    ap trees_of (c.loop-outline.invariant ∙ ap (map (λ o. leaf_tree o.set.now)) all) ∙ leaves_are os
