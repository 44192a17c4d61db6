use Rattle.scop_syntax.proofs.Common.{rules, sym, subst, ◌≡◌, ◌+◌, ◌<◌, ◌≤◌, length, take, true, Ok}
use Rattle.wide_math.specs.Gives.{Gives, IsTold}
use Rattle.plan_check.specs.Goals.{loops_in}
use Rattle.plan_check.specs.Judged.{laying, line_judged}
use Rattle.plan_check.specs.Text.{said_in}
use Rattle.plan_check.specs.TextView.{stage_view, rejected_in}
use Rattle.plan_check.proofs.Reached.{IsReached, first_reached, next_reached, stop_reached, end_reached, end_stage}
use Rattle.plan_check.proofs.Reached.{reached_ready, shorter, stage_suits, plan_in}
use Rattle.plan_check.proofs.checking.judge.Goals as goal

pub loop-rest-init : goal.loop-rest-init
loop-rest-init c =
    subst (λ l. IsReached c.args.model.now c.args.text.now 0 (laying l) c.args.text.now) (sym c.nothing_laid.ensures)
    (first_reached c.args.model.now c.args.text.now)

pub loop-rest-preserved : goal.loop-rest-preserved
loop-rest-preserved c =
    let l = c.loop-rest in
    let model = c.args.model.now in
    let n = c.line_len-line.result in
    let rest = l.rest.now in
    let next = c.in-Ok.next in
    let within : n ≤ length rest = c.line_len-line.ensures.within in
    let some : 0 < length rest = search rules in
    let read : line_judged model l.lines (stage_view l.stage) (said_in (loops_in model) (take n rest))
    ≡ Ok (stage_view next) = search rules in
    subst (IsReached model c.args.text.now (l.lines + 1) (stage_view next)) (sym c.behind_line-rest.ensures)
    (next_reached model c.args.text.now l.lines (stage_view l.stage) (stage_view next) rest n c.line_len-line.ensures.value
    within some l.invariant read)

pub read_line-requires-clause-stage : goal.read_line-requires-clause-stage
read_line-requires-clause-stage c =
    let l = c.loop-rest in
    reached_ready c.args.model.now c.args.text.now l.lines (stage_view l.stage) l.rest.now l.invariant

pub end-requires-clause-stage : goal.end-requires-clause-stage
end-requires-clause-stage c =
    let l = c.loop-rest in
    reached_ready c.args.model.now c.args.text.now l.lines (stage_view l.stage) l.rest.now l.invariant

pub returns-in-Err-clause-judged : goal.returns-in-Err-clause-judged
returns-in-Err-clause-judged c =
    let l = c.loop-rest in
    let model = c.args.model.now in
    let rest = l.rest.now in
    let some : 0 < length rest = search rules in
    let told : IsTold (rejected_in c.in-Err.stop)
    (line_judged model l.lines (stage_view l.stage) (said_in (loops_in model) (take c.line_len-line.result rest)))
    = search rules in
    stop_reached model c.args.text.now l.lines (stage_view l.stage) rest c.line_len-line.result c.line_len-line.ensures.value
    c.line_len-line.ensures.within some l.invariant (rejected_in c.in-Err.stop) told

pub returns-clause-judged : goal.returns-clause-judged
returns-clause-judged c =
    let l = c.loop-rest in
    let rest = l.rest.now in
    let none : length rest ≡ 0 = search rules in
    subst (Gives rejected_in (λ u. true) c.end.result)
    (end_reached c.args.model.now c.args.text.now l.lines (stage_view l.stage) rest none l.invariant)
    c.end.ensures.judged

pub returns-clause-points : goal.returns-clause-points
returns-clause-points c ok =
    let l = c.loop-rest in
    let model = c.args.model.now in
    let rest = l.rest.now in
    let none : length rest ≡ 0 = search rules in
    let stage = end_stage model c.args.text.now l.lines (stage_view l.stage) rest none l.invariant in
    record {
      suits = stage_suits model (plan_in model c.args.text.now) l.lines (stage_view l.stage) stage;
      none = c.end.ensures.points (plan_in model c.args.text.now) stage ok;
    }

pub loop-rest-smaller : goal.loop-rest-smaller
loop-rest-smaller c =
    let l = c.loop-rest in
    let rest = l.rest.now in
    let some : 0 < length rest = search rules in
    subst (λ t. length t < length rest) (sym c.behind_line-rest.ensures) (shorter rest c.line_len-line.result some)
