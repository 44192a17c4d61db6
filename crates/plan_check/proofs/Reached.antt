-- How far the judge of a text has come, line by line.
use Rattle.scop_syntax.proofs.Common.{◌≡◌, ◌∙◌, ap, sym, refl, subst, ℕ, suc, ◌+◌, ◌<◌, ◌≤◌, Bool, true, false, [], ◌∷◌}
use Rattle.scop_syntax.proofs.Common.{length, take, drop, arith, not, if◌then◌else◌, Option, Some, None, Result, Ok}
use Rattle.scop_syntax.proofs.Common.{Err, position_or_len, length-drop}
use Rattle.wide_math.specs.Gives.{IsTold}
use Rattle.scop_lexer.specs.Bytes.{Text}
use Rattle.iteration_domains.specs.Model.{KernelModel}
use Rattle.plan_check.specs.Goals.{goals_in, loops_in}
use Rattle.plan_check.specs.Judged.{Laid, Rejected, Stage, end_judged, goals_opened, has_rows, laying, line_judged, lines_judged}
use Rattle.plan_check.specs.Judged.{laid_stage, nothing_laid, plan_of_lines, proving, rejected_at, then_goals, then_lines}
use Rattle.plan_check.specs.Plans.{Plan, Suits}
use Rattle.plan_check.specs.Progress.{Progress, opening}
use Rattle.plan_check.specs.Text.{is_line_feed, lines_of, said_in}
use Rattle.plan_check.specs.declared.kinds.FaultKind.TheVariants as kind
use Rattle.plan_check.specs.steps.Stages.{IsReady, IsStage}
use Rattle.plan_check.proofs.LineSplits.{line_split}
use Rattle.plan_check.proofs.Stages.{can_go, first_stage, stage_kept}

-- the text's plan
abbrev pub plan_in : KernelModel → Text → Plan
plan_in model text = plan_of_lines (loops_in model) nothing_laid (lines_of text)

-- k lines were read, and what they made of the first stage makes of the rest what the text is
pub record IsReached (model : KernelModel) (text : Text) (k : ℕ) (s : Stage) (rest : Text) : Type 0 where
  pub stage : IsStage model (plan_in model text) k (lines_of rest) s
  pub same : lines_judged model k s (lines_of rest) ≡ lines_judged model 0 (laying nothing_laid) (lines_of text)
  pub few : k + length rest ≤ length text

pub first_reached : (model : KernelModel) (text : Text) → IsReached model text 0 (laying nothing_laid) text
first_reached model text = record { stage = first_stage model (lines_of text); same = refl; few = omega arith }

-- a line that is read
pub next_reached : (model : KernelModel) (text : Text) (k : ℕ) (s t : Stage) (rest : Text) (n : ℕ)
    → n ≡ position_or_len is_line_feed rest → n ≤ length rest → 0 < length rest → IsReached model text k s rest
    → line_judged model k s (said_in (loops_in model) (take n rest)) ≡ Ok t
    → IsReached model text (k + 1) t (drop 1 (drop n rest))
next_reached model text k s t rest n is within some h j =
    let split = line_split rest n is within some in
    let behind = drop 1 (drop n rest) in
    let plan = plan_in model text in
    let front = length-drop n rest in
    let back = length-drop 1 (drop n rest) in
    let few = h.few in
    let next : IsReached model text (suc k) t behind = record {
      stage = stage_kept model plan k (take n rest) (lines_of behind) s t
          (subst (λ ls. IsStage model plan k ls s) split h.stage) j;
      same = sym (ap (lines_judged model k s) split
          ∙ ap (λ r. then_lines r (λ u. lines_judged model (suc k) u (lines_of behind))) j) ∙ h.same;
      few = omega (arith, front, back, few, some);
    } in
    let e : suc k ≡ k + 1 = omega arith in
    subst (λ m. IsReached model text m t behind) e next

-- each line leaves less
pub shorter : (rest : Text) (n : ℕ) → 0 < length rest → length (drop 1 (drop n rest)) < length rest
shorter rest n some =
    let front = length-drop n rest in
    let back = length-drop 1 (drop n rest) in
    omega (arith, front, back, some)

-- a line that is refused
pub stop_reached : (model : KernelModel) (text : Text) (k : ℕ) (s : Stage) (rest : Text) (n : ℕ)
    → n ≡ position_or_len is_line_feed rest → n ≤ length rest → 0 < length rest → IsReached model text k s rest
    → (told : Option Rejected) → IsTold told (line_judged model k s (said_in (loops_in model) (take n rest)))
    → IsTold told (lines_judged model 0 (laying nothing_laid) (lines_of text))
stop_reached model text k s rest n is within some h None j = tt
stop_reached model text k s rest n is within some h (Some w) j =
    let behind = drop 1 (drop n rest) in
    sym h.same ∙ (ap (lines_judged model k s) (line_split rest n is within some)
    ∙ ap (λ r. then_lines r (λ u. lines_judged model (suc k) u (lines_of behind))) j)

-- the end of all lines
pub end_reached : (model : KernelModel) (text : Text) (k : ℕ) (s : Stage) (rest : Text) → length rest ≡ 0
    → IsReached model text k s rest → end_judged model k s ≡ lines_judged model 0 (laying nothing_laid) (lines_of text)
end_reached model text k s [] e h = h.same
end_reached model text k s (b ∷ bs) e h = absurd (omega (arith, e))

pub end_stage : (model : KernelModel) (text : Text) (k : ℕ) (s : Stage) (rest : Text) → length rest ≡ 0
    → IsReached model text k s rest → IsStage model (plan_in model text) k [] s
end_stage model text k s [] e h = h.stage
end_stage model text k s (b ∷ bs) e h = absurd (omega (arith, e))

pub reached_ready : (model : KernelModel) (text : Text) (k : ℕ) (s : Stage) (rest : Text)
    → IsReached model text k s rest → IsReady (loops_in model) k s
reached_ready model text k s rest h = can_go model (plan_in model text) k (lines_of rest) s h.stage

-- a plan at its end has its forms
pub stage_suits : (model : KernelModel) (plan : Plan) (k : ℕ) (s : Stage) → IsStage model plan k [] s
    → Suits (loops_in model) plan
stage_suits model plan k (laying l) h = subst (Suits (loops_in model)) h.1 h.0.suits
stage_suits model plan k (proving p) h = h.0

-- goals that were opened are the plan's
opened_by : (model : KernelModel) (a : Bool) (x : Rejected) (goals : Progress) (p : Progress)
    → (if not a then Err x else Ok goals) ≡ Ok p → goals ≡ p
opened_by model true x goals p e = cc
opened_by model false x goals p e = absurd cc

pub opened_goals : (model : KernelModel) (k : ℕ) (l : Laid) (p : Progress) → goals_opened model k l ≡ Ok p
    → p.goals ≡ goals_in model l.plan
opened_goals model k l p e =
    sym (ap (λ (q : Progress). q.goals)
    (opened_by model (has_rows (loops_in model) l) _ (opening (goals_in model l.plan)) p e))

-- what stops the opening of goals stops what follows
pub told_opening : {A : Type 0} (told : Option Rejected) (r : Result Progress Rejected) (next : Progress → Result A Rejected)
    → IsTold told r → IsTold told (then_goals r next)
told_opening None r next h = tt
told_opening (Some w) r next h = ap (λ q. then_goals q next) h

pub told_laying : (told : Option Rejected) (r : Result Laid Rejected) → IsTold told r → IsTold told (laid_stage r)
told_laying None r h = tt
told_laying (Some w) r h = ap laid_stage h

-- a line that says nothing
pub none_judged : (model : KernelModel) (k : ℕ) (s : Stage)
    → line_judged model k s None ≡ Err (rejected_at kind.Form (suc k))
none_judged model k (laying l) = refl
none_judged model k (proving p) = refl
