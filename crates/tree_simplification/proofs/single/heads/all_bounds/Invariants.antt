use Rattle.scop_syntax.proofs.Common.{◌≡◌, ◌^◌, ◌++◌, drop, map, All}
use Rattle.loop_tree.specs.Shape.{IsOverUpTo}
use Rattle.tree_simplification.specs.steps.Inlined.{bound_over}
use Rattle.tree_simplification.proofs.single.heads.all_bounds.Given as goal

abbrev pub invariant-loop-bound : goal.invariant-loop-bound
invariant-loop-bound l =
    (l.all.items ++ map (bound_over l.up l.variables l.forms) (drop l.bound-index l.bounds)
    ≡ map (bound_over l.up l.variables l.forms) l.bounds)
    × All (λ b. IsOverUpTo (2 ^ 45) b.form b.divisor) l.all.items
