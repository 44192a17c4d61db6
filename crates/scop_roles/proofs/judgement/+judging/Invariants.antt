use Rattle.scop_syntax.proofs.Common.{map, drop, fold, IfOk}
use Rattle.scop_roles.specs.Formula.{Formula, argument_of, formula_of, index, with_argument}
use Rattle.scop_roles.specs.steps.Judgement.{HasForm, IsJudgement}
use Rattle.scop_roles.proofs.Chains.{Makes}
use Rattle.scop_roles.proofs.judgement.+judging.Given as goal

abbrev pub invariant-judge_subscripts-loop-subscript : goal.invariant-judge_subscripts-loop-subscript
invariant-judge_subscripts-loop-subscript l =
    (p : Formula) → IfOk l.fn.place (IsJudgement l.entries p)
    → Makes index (λ q. IfOk l.place (IsJudgement l.entries q)) (map formula_of (drop l.subscript-index l.subscripts))
    (fold index p (map formula_of l.subscripts))

abbrev pub invariant-judge_arguments-loop-other : goal.invariant-judge_arguments-loop-other
invariant-judge_arguments-loop-other l =
    IfOk l.arguments (λ j. HasForm l.entries j.form)
    × ((f : Formula) → IfOk l.fn.first (IsJudgement l.entries f)
    → Makes with_argument (λ q. IfOk l.arguments (IsJudgement l.entries q))
    (map argument_of (drop l.other-index l.others)) (fold with_argument f (map argument_of l.others)))
