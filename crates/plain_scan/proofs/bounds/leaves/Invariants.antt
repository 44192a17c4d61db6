use Rattle.scop_syntax.proofs.Common.{◌≡◌, map, take}
use Rattle.loop_tree.specs.View.{tree_of}
use Rattle.plain_scan.specs.Hulls.{leaf_tree}
use Rattle.plain_scan.proofs.bounds.leaves.Given as goal

abbrev pub invariant-loop-outline : goal.invariant-loop-outline
invariant-loop-outline l =
    map tree_of l.out.items ≡ map (λ o. leaf_tree o.set.now) (take l.outline-index l.outlines)
