use Rattle.scop_syntax.proofs.Common.{◌≡◌, drop}
use Rattle.loop_tree.proofs.Products.{Summing}
use Rattle.loop_tree.proofs.outer.with_row.Given as goal

abbrev pub invariant-loop-value : goal.invariant-loop-value
invariant-loop-value l =
    Summing l.fn.sum l.sum l.fn.coefficients l.rest l.row (drop l.value-index l.row)
    × (l.rest ≡ drop l.value-index l.fn.coefficients)
