use Rattle.scop_syntax.proofs.Common.{subst, IfOk}
use Rattle.scop_roles.specs.steps.Judgement.{HasForm, IsJudgement}
use Rattle.scop_roles.proofs.FormulaValues.{if_ok}
use Rattle.scop_roles.proofs.sides.of_binary.Goals as goal

pub over_sides-whole-requires-clause-left : goal.over_sides-whole-requires-clause-left
over_sides-whole-requires-clause-left c =
    subst (λ r. IfOk r (λ j. HasForm c.args.entries j.form)) c.in-Ok.ensures.first c.requires.left

pub over_sides-whole-requires-clause-right : goal.over_sides-whole-requires-clause-right
over_sides-whole-requires-clause-right c =
    subst (λ r. IfOk r (λ j. HasForm c.args.entries j.form)) c.in-Ok.ensures.second c.requires.right

pub returns-in-Ok-clause-judged : goal.returns-in-Ok-clause-judged
returns-in-Ok-clause-judged c f g h i =
    let n = c.args.entries in
    if_ok c.over_sides-whole.result
    (λ j judged. judged f g (subst (λ r. IfOk r (IsJudgement n f)) c.in-Ok.ensures.first h)
    (subst (λ r. IfOk r (IsJudgement n g)) c.in-Ok.ensures.second i)) c.over_sides-whole.ensures.judged
