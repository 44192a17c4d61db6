use Rattle.scop_syntax.proofs.Common.{◌≡◌, ◌^◌, ◌++◌, drop, map, All}
use Rattle.loop_tree.specs.Shape.{IsOverUpTo}
use Rattle.tree_simplification.specs.steps.Strided.{block}
use Rattle.tree_simplification.proofs.single.stride.block_parts.Given as goal

abbrev pub invariant-loop-part : goal.invariant-loop-part
invariant-loop-part l =
    (l.all.items ++ map (block l.by l.at) (drop l.part-index l.parts) ≡ map (block l.by l.at) l.parts)
    × All (λ b. IsOverUpTo (2 ^ 40) b.form b.divisor) l.all.items
