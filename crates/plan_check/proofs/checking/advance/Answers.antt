use Rattle.scop_syntax.proofs.Common.{sym, subst, Some}
use Rattle.wide_math.specs.Gives.{Gives}
use Rattle.plan_check.specs.Judged.{line_judged}
use Rattle.plan_check.specs.TextView.{rejected_in, said_view, stage_view}
use Rattle.plan_check.proofs.checking.advance.Goals as goal

pub returns-in-Proving : goal.returns-in-Proving
returns-in-Proving c =
    subst (λ s. Gives rejected_in stage_view c.prove.result
    (line_judged c.args.model.now c.args.lines (stage_view s) (Some (said_view c.args.said)))) (sym c.in-Proving.is)
    (c.prove.ensures c.args.model.now)
