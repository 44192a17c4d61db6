use Rattle.scop_syntax.proofs.Common.{map, drop, fold, IfOk, expression_of}
use Rattle.scop_roles.specs.Formula.{Formula, argument_of, with_argument}
use Rattle.scop_roles.specs.Values.{IsValueOf}
use Rattle.scop_roles.proofs.Chains.{Makes}
use Rattle.scop_roles.proofs.values.+valuing.Given as goal

abbrev pub invariant-arguments_value-loop-other : goal.invariant-arguments_value-loop-other
invariant-arguments_value-loop-other l =
    (f : Formula) → IfOk l.fn.first (λ e. IsValueOf l.entries f (expression_of e))
    → Makes with_argument (λ q. IfOk l.left (λ e. IsValueOf l.entries q (expression_of e)))
    (map argument_of (drop l.other-index l.others)) (fold with_argument f (map argument_of l.others))
