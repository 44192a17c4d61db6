use Rattle.scop_syntax.proofs.Common.{drop}
use Rattle.loop_tree.proofs.Products.{Summing}
use Rattle.loop_tree.proofs.outer.with_params.Given as goal

abbrev pub invariant-loop-param : goal.invariant-loop-param
invariant-loop-param l =
    Summing l.fn.sum l.sum l.fn.coefficients l.rest l.params (drop l.param-index l.params)
