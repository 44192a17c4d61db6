-- Lines are rejected exactly at their first fault; its line is the next one, or the last one of a goal that is not proved.
use Rattle.scop_syntax.proofs.Common.{◌≡◌, ◌∙◌, ap, sym, subst, refl, inl, inr, ◌↔◌, ℕ, suc, ◌+◌, Bool, true, false}
use Rattle.scop_syntax.proofs.Common.{not, List, [], ◌∷◌, ◌++◌, length, arith, ◌==◌, if◌then◌else◌, Option, Some, None}
use Rattle.scop_syntax.proofs.Common.{Result, Ok, Err, Program}
use Rattle.scop_lexer.specs.Bytes.{Text}
use Rattle.iteration_domains.specs.Model.{KernelModel, model_of}
use Rattle.schedule_lines.specs.Lines.{Row, Scalar}
use Rattle.plan_check.specs.FirstFaults.{AreTaken, IsAtLine, IsFirstFault, IsNextFault}
use Rattle.plan_check.specs.Goals.{loops_in}
use Rattle.plan_check.specs.Judged.{Laid, Rejected, Stage, are_held, end_judged, goal_judged, goals_ended, goals_opened}
use Rattle.plan_check.specs.Judged.{has_rows, is_next_band, judged, kind_of, laid_stage, laying, line_judged, lines_judged}
use Rattle.plan_check.specs.Judged.{nothing_laid, proving, proving_stage, rejected_at, row_held, row_judged, scalar_judged}
use Rattle.plan_check.specs.Judged.{step_held, step_judged, step_of_line, then_goals, then_lines, unheld, went_on}
use Rattle.plan_check.specs.Progress.{Progress, goal_begun, line_added, none_left}
use Rattle.plan_check.specs.Text.{Said, StepLine, goal, lines_of, row, said_in, scalar, step}
use Rattle.plan_check.specs.declared.lines.Fault.{Fault}
use Rattle.plan_check.specs.declared.kinds.FaultKind.TheVariants as kind

same_error : {A : Type 0} (x y : Rejected) → ◌≡◌ {A = Result A Rejected} (Err x) (Err y) → x ≡ y
same_error x y h = cc

-- where lines behind k others are rejected
record FirstFrom (model : KernelModel) (k : ℕ) (s : Stage) (ls : List Text) (r : Rejected) : Type 0 where
  before : List Text
  behind : List Text
  are : ls ≡ before ++ behind
  stage : Stage
  taken : AreTaken model k s before stage
  fault : IsNextFault model (k + length before) stage behind r

at_once : (model : KernelModel) (k : ℕ) (s : Stage) (ls : List Text) (r : Rejected) → IsNextFault model k s ls r
    → FirstFrom model k s ls r
at_once model k s ls r h = record {
  before = [];
  behind = ls;
  are = refl;
  stage = s;
  taken = refl;
  fault = let same : k ≡ k + 0 = omega arith in subst (λ n. IsNextFault model n s ls r) same h;
}

later : (model : KernelModel) (k : ℕ) (s t : Stage) (l : Text) (ls : List Text) (r : Rejected)
    → line_judged model k s (said_in (loops_in model) l) ≡ Ok t → FirstFrom model (suc k) t ls r
    → FirstFrom model k s (l ∷ ls) r
later model k s t l ls r e f = record {
  before = l ∷ f.before;
  behind = f.behind;
  are = ap (λ ms. l ∷ ms) f.are;
  stage = f.stage;
  taken = (t, e, f.taken);
  fault = let same : suc k + length f.before ≡ k + suc (length f.before) = omega arith in
      subst (λ n. IsNextFault model n f.stage f.behind r) same f.fault;
}

first_from : (model : KernelModel) (k : ℕ) (s : Stage) (ls : List Text) (r : Rejected)
    → lines_judged model k s ls ≡ Err r → FirstFrom model k s ls r
first_from model k s [] r h = at_once model k s [] r h
first_from model k s (l ∷ ls) r h =
    by_line (λ t. first_from model (suc k) t ls r) (line_judged model k s (said_in (loops_in model) l)) refl h
  where
    by_line : ((t : Stage) → lines_judged model (suc k) t ls ≡ Err r → FirstFrom model (suc k) t ls r)
        → (o : Result Stage Rejected) → line_judged model k s (said_in (loops_in model) l) ≡ o
        → then_lines o (λ t. lines_judged model (suc k) t ls) ≡ Err r → FirstFrom model k s (l ∷ ls) r
    by_line again (Ok t) e h = later model k s t l ls r e (again t h)
    by_line again (Err x) e h =
        at_once model k s (l ∷ ls) r (e ∙ ap (λ (y : Rejected). Err y) (same_error {A = Bool} x r h))

next_judged : (model : KernelModel) (k : ℕ) (s : Stage) (ls : List Text) (r : Rejected) → IsNextFault model k s ls r
    → lines_judged model k s ls ≡ Err r
next_judged model k s [] r h = h
next_judged model k s (l ∷ ls) r h = ap (λ o. then_lines o (λ t. lines_judged model (suc k) t ls)) h

taken_judged : (model : KernelModel) (k : ℕ) (s t : Stage) (before behind : List Text) (r : Rejected)
    → AreTaken model k s before t → IsNextFault model (k + length before) t behind r
    → lines_judged model k s (before ++ behind) ≡ Err r
taken_judged model k s t [] behind r taken fault =
    let same : k + 0 ≡ k = omega arith in
    next_judged model k s behind r
    (subst (λ u. IsNextFault model k u behind r) (sym taken) (subst (λ n. IsNextFault model n t behind r) same fault))
taken_judged model k s t (l ∷ before) behind r taken fault =
    let same : k + suc (length before) ≡ suc k + length before = omega arith in
    ap (λ o. then_lines o (λ u. lines_judged model (suc k) u (before ++ behind))) taken.1
    ∙ taken_judged model (suc k) taken.0 t before behind r taken.2
    (subst (λ n. IsNextFault model n t behind r) same fault)

pub first_fault : (program : Program) (text : Text) (r : Rejected)
    → (judged program text ≡ Err r) ↔ IsFirstFault program text r
first_fault program text r = (found, rejected)
  where
    found : judged program text ≡ Err r → IsFirstFault program text r
    found h =
        let model = model_of program in
        let f = first_from model 0 (laying nothing_laid) (lines_of text) r h in
        let same : 0 + length f.before ≡ length f.before = omega arith in
        record {
          before = f.before;
          behind = f.behind;
          are = f.are;
          stage = f.stage;
          taken = f.taken;
          fault = subst (λ n. IsNextFault model n f.stage f.behind r) same f.fault;
        }

    rejected : IsFirstFault program text r → judged program text ≡ Err r
    rejected f =
        let model = model_of program in
        let same : length f.before ≡ 0 + length f.before = omega arith in
        ap (lines_judged model 0 (laying nothing_laid)) f.are
        ∙ taken_judged model 0 (laying nothing_laid) f.stage f.before f.behind r f.taken
        (subst (λ n. IsNextFault model n f.stage f.behind r) same f.fault)

-- the line that is rejected
here : {A : Type 0} (k : ℕ) (x r : Rejected) → IsAtLine k x → ◌≡◌ {A = Result A Rejected} (Err x) (Err r) → IsAtLine k r
here {A} k x r at h = subst (IsAtLine k) (same_error {A = A} x r h) at

unless : {A : Type 0} (k : ℕ) (t : Bool) (x r : Rejected) (o : Result A Rejected) → IsAtLine k x
    → (o ≡ Err r → IsAtLine k r) → (if t then Err x else o) ≡ Err r → IsAtLine k r
unless {A} k true x r o at next h = here {A = A} k x r at h
unless k false x r o at next h = next h

never : {A : Type 0} (x : A) (k : ℕ) (r : Rejected) → ◌≡◌ {A = Result A Rejected} (Ok x) (Err r) → IsAtLine k r
never x k r h = absurd cc

row_line : (k : ℕ) (l : Laid) (w : Row) (r : Rejected) → row_judged k l w ≡ Err r → IsAtLine k r
row_line k l w r h =
    unless k (not (w.number == suc k)) (rejected_at kind.Form (suc k)) r _ (inl refl)
    (λ g. unless k (not (is_next_band l w.band)) (rejected_at kind.Form (suc k)) r _ (inl refl)
    (λ e. unless k (not (row_held w)) (rejected_at kind.Wide (suc k)) r _ (inl refl) (λ d. never _ k r d) e) g) h

scalar_line : (k : ℕ) (l : Laid) (s : Scalar) (r : Rejected) → scalar_judged k l s ≡ Err r → IsAtLine k r
scalar_line k l s r h =
    unless k (not (s.number == suc k)) (rejected_at kind.Form (suc k)) r _ (inl refl)
    (λ g. unless k (not (are_held s.values)) (rejected_at kind.Wide (suc k)) r _ (inl refl) (λ d. never _ k r d) g) h

opened_line : (model : KernelModel) (k : ℕ) (l : Laid) (r : Rejected) → goals_opened model k l ≡ Err r → IsAtLine k r
opened_line model k l r h =
    unless k (not (has_rows (loops_in model) l)) (rejected_at kind.Form (suc k)) r _ (inl refl) (λ d. never _ k r d) h

went_line : (k : ℕ) (o : Result Progress Fault) (r : Rejected) → went_on (suc k) o ≡ Err r → IsAtLine k r
went_line k (Ok p) r h = never p k r h
went_line k (Err f) r h = here {A = Progress} k (rejected_at (kind_of f) (suc k)) r (inl refl) h

goal_line : (k : ℕ) (p : Progress) (g : ℕ) (r : Rejected) → goal_judged k p g ≡ Err r → IsAtLine k r
goal_line k p g r h =
    unless k (not p.ended) (rejected_at kind.Goal k) r _ (inr (refl, refl))
    (λ e. unless k (not (g == suc p.begun)) (rejected_at kind.Goal (suc k)) r _ (inl refl)
    (λ d. went_line k (goal_begun p) r d) e) h

step_line : (k : ℕ) (p : Progress) (s : StepLine) (r : Rejected) → step_judged k p s ≡ Err r → IsAtLine k r
step_line k p s r h =
    unless k (not (step_held s)) (rejected_at (unheld (length p.rows) s) (suc k)) r _ (inl refl)
    (λ d. went_line k (line_added p (step_of_line s)) r d) h

ended_line : (k : ℕ) (p : Progress) (r : Rejected) → goals_ended k p ≡ Err r → IsAtLine k r
ended_line k p r h =
    unless k (not p.ended) (rejected_at kind.Goal k) r _ (inr (refl, refl))
    (λ e. unless k (not (none_left p.left)) (rejected_at kind.Goal (suc k)) r _ (inl refl) (λ d. never _ k r d) e) h

-- through what only passes a rejection on
of_laid : (k : ℕ) (o : Result Laid Rejected) (r : Rejected) → (o ≡ Err r → IsAtLine k r) → laid_stage o ≡ Err r
    → IsAtLine k r
of_laid k (Ok l) r at h = never (laying l) k r h
of_laid k (Err x) r at h = at (ap (λ (y : Rejected). Err y) (same_error {A = Stage} x r h))

of_goals : {A : Type 0} (k : ℕ) (o : Result Progress Rejected) (next : Progress → Result A Rejected) (r : Rejected)
    → (o ≡ Err r → IsAtLine k r) → ((p : Progress) → next p ≡ Err r → IsAtLine k r) → then_goals o next ≡ Err r
    → IsAtLine k r
of_goals k (Ok p) next r at on h = on p h
of_goals {A} k (Err x) next r at on h = at (ap (λ (y : Rejected). Err y) (same_error {A = A} x r h))

of_proving : (k : ℕ) (o : Result Progress Rejected) (r : Rejected) → (o ≡ Err r → IsAtLine k r)
    → proving_stage o ≡ Err r → IsAtLine k r
of_proving k o r at h = of_goals k o (λ p. Ok (proving p)) r at (λ p d. never (proving p) k r d) h

nothing_here : (k : ℕ) (r : Rejected) → ◌≡◌ {A = Result Stage Rejected} (Err (rejected_at kind.Form (suc k))) (Err r)
    → IsAtLine k r
nothing_here k r h = here {A = Stage} k (rejected_at kind.Form (suc k)) r (inl refl) h

judged_line : (model : KernelModel) (k : ℕ) (s : Stage) (o : Option Said) (r : Rejected)
    → line_judged model k s o ≡ Err r → IsAtLine k r
judged_line model k (laying l) (Some (row w)) r h = of_laid k (row_judged k l w) r (row_line k l w r) h
judged_line model k (laying l) (Some (scalar s)) r h = of_laid k (scalar_judged k l s) r (scalar_line k l s r) h
judged_line model k (laying l) (Some (goal g)) r h =
    of_proving k (then_goals (goals_opened model k l) (λ p. goal_judged k p g)) r
    (of_goals k (goals_opened model k l) (λ p. goal_judged k p g) r (opened_line model k l r) (λ p. goal_line k p g r)) h
judged_line model k (laying l) (Some (step s)) r h = nothing_here k r h
judged_line model k (laying l) None r h = nothing_here k r h
judged_line model k (proving p) (Some (row w)) r h = nothing_here k r h
judged_line model k (proving p) (Some (scalar s)) r h = nothing_here k r h
judged_line model k (proving p) (Some (goal g)) r h = of_proving k (goal_judged k p g) r (goal_line k p g r) h
judged_line model k (proving p) (Some (step s)) r h = of_proving k (step_judged k p s) r (step_line k p s r) h
judged_line model k (proving p) None r h = nothing_here k r h

end_line : (model : KernelModel) (k : ℕ) (s : Stage) (r : Rejected) → end_judged model k s ≡ Err r → IsAtLine k r
end_line model k (laying l) r h =
    of_goals k (goals_opened model k l) (goals_ended k) r (opened_line model k l r) (λ p. ended_line k p r) h
end_line model k (proving p) r h = ended_line k p r h

pub fault_line : (model : KernelModel) (k : ℕ) (s : Stage) (ls : List Text) (r : Rejected) → IsNextFault model k s ls r
    → IsAtLine k r
fault_line model k s [] r h = end_line model k s r h
fault_line model k s (l ∷ ls) r h = judged_line model k s (said_in (loops_in model) l) r h
