use Rattle.scop_syntax.proofs.Common.{rules, ap, refl, sym, subst, ◌≡◌, ◌∙◌, Some, None}
use Rattle.wide_math.specs.Gives.{Gives}
use Rattle.plan_check.specs.Goals.{loops_in}
use Rattle.plan_check.specs.Judged.{line_judged}
use Rattle.plan_check.specs.Text.{said_in}
use Rattle.plan_check.specs.TextView.{rejected_in, said_view, stage_view}
use Rattle.plan_check.proofs.Reached.{none_judged}
use Rattle.plan_check.proofs.StepLines.{factors_said}
use Rattle.plan_check.proofs.checking.read_line.Goals as goal

pub advance-requires-clause-said : goal.advance-requires-clause-said
advance-requires-clause-said c =
    let said = c.in-Ok-Some.said in
    let read : said_in c.args.loops.now c.args.line.now ≡ Some (said_view said) = search rules in
    factors_said c.args.loops.now c.args.line.now (said_view said) read

pub returns-in-Ok-None : goal.returns-in-Ok-None
returns-in-Ok-None c =
    let model = c.args.model.now in
    let stage = stage_view c.args.stage in
    let read : said_in (loops_in model) c.args.line.now ≡ None = search rules in
    let judged = ap (line_judged model c.args.lines stage) read ∙ none_judged model c.args.lines stage in
    rw (judged, c.rejected.ensures) refl

pub returns-in-Ok-Some : goal.returns-in-Ok-Some
returns-in-Ok-Some c =
    let model = c.args.model.now in
    let said = c.in-Ok-Some.said in
    let read : said_in (loops_in model) c.args.line.now ≡ Some (said_view said) = search rules in
    subst (λ o. Gives rejected_in stage_view c.advance.result (line_judged model c.args.lines (stage_view c.args.stage) o))
    (sym read) c.advance.ensures
