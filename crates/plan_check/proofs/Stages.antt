-- Stages go from line to line: items suit the kernel and their numbers are not negative, goals stay those of the plan.
use Rattle.scop_syntax.proofs.Common.{◌⊎◌, inl, inr, ◌≡◌, ◌∙◌, ap, sym, refl, subst, ℕ, suc, Bool, true, false}
use Rattle.scop_syntax.proofs.Common.{List, [], ◌∷◌, ◌++◌, length, map, arith, ◌==◌, ◌≤ℤ◌, not, if◌then◌else◌, pos}
use Rattle.scop_syntax.proofs.Common.{Option, Some, None, Result, Ok, Err, option_map, ints, length-map, All-nil}
use Rattle.scop_syntax.proofs.Common.{All-map, All-push, Affine}
use Rattle.std.specs.List.{slice_index_or}
use Rattle.affine_forms.specs.Parts.{variables_of}
use Rattle.scop_lexer.specs.Bytes.{Text}
use Rattle.iteration_domains.specs.Dependence.{Dependence}
use Rattle.iteration_domains.specs.Model.{KernelModel}
use Rattle.schedule_lines.specs.Lines.{Part, Row, Scalar}
use Rattle.schedule_lines.specs.Reading.{row_in, scalar_in}
use Rattle.schedule_lines.proofs.RowParts.{row_has}
use Rattle.plan_check.specs.Derivations.{held, row_said}
use Rattle.plan_check.specs.Goals.{goals_in, loops_in}
use Rattle.plan_check.specs.Judged.{Laid, Stage, laying, proving, Rejected, are_held, form_of_part, forms_of, goal_judged}
use Rattle.plan_check.specs.Judged.{goals_opened, has_rows, is_next_band, line_judged, nothing_laid, plan_of_lines, row_held}
use Rattle.plan_check.specs.Judged.{row_laid, scalar_laid, step_held, step_judged, step_of_line}
use Rattle.plan_check.specs.Judged.{plan_behind, laid_stage, proving_stage, then_goals, went_on}
use Rattle.plan_check.specs.Plans.{AreFor, AreUp, IsFor, IsFormUp, IsItemUp, IsUp, Plan, Suits, rows}
use Rattle.plan_check.specs.Plans.{numbers}
use Rattle.plan_check.specs.Progress.{Progress, begun_with, goal_begun, goal_run, line_added, next_begun, opening}
use Rattle.plan_check.specs.Progress.{with_row as row_added}
use Rattle.plan_check.specs.Text.{Said, StepLine, goal, goal_in, or_else, proof_in, row, said_in, scalar, step, step_in}
use Rattle.plan_check.specs.declared.lines.Fault.{Fault}
use Rattle.plan_check.specs.steps.Stages.{IsReady, IsLaid, IsStage}

-- the forms of a row have a coefficient for each loop, and no negative number
lengths : (ps : List Part) → map variables_of (map form_of_part ps) ≡ map (λ p. length p.coefficients) ps
lengths [] = refl
lengths (p ∷ ps) =
    ap (λ ns. length (map (λ n. pos n) p.coefficients) ∷ ns) (lengths ps)
    ∙ ap (λ n. n ∷ map (λ q. length q.coefficients) ps) (length-map p.coefficients (λ n. pos n))

at_least_zero : (n : ℕ) → pos 0 ≤ℤ pos n
at_least_zero n = omega (arith, ints)

form_up : (p : Part) → IsFormUp (form_of_part p)
form_up p = record {
  coefficients = All-map (λ z. pos 0 ≤ℤ z) (λ n. pos n) p.coefficients
      (λ k d h. at_least_zero (slice_index_or p.coefficients k d));
  constant = at_least_zero p.shift;
}

forms_up : (ps : List Part) → AreUp (map form_of_part ps)
forms_up ps = All-map IsFormUp form_of_part ps (λ k d h. form_up (slice_index_or ps k d))

-- a plan with a row more, and with a scalar
row_suits : (loops : List ℕ) (first : Bool) (p : Plan) (par : Bool) (forms : List Affine) → AreFor loops forms → Suits loops p
    → Suits loops (if first then record p { band = p.band ++ record { forms = forms; parallel = par } ∷ [] }
    else record p { behind = p.behind ++ rows forms ∷ [] })
row_suits loops true p par forms h s = record {
  band = All-push (λ r. AreFor loops r.forms) p.band (record { forms = forms; parallel = par }) s.band h;
  behind = s.behind;
}
row_suits loops false p par forms h s =
    record { band = s.band; behind = All-push (IsFor loops) p.behind (rows forms) s.behind h }

row_up : (first : Bool) (p : Plan) (par : Bool) (forms : List Affine) → AreUp forms → IsUp p
    → IsUp (if first then record p { band = p.band ++ record { forms = forms; parallel = par } ∷ [] }
    else record p { behind = p.behind ++ rows forms ∷ [] })
row_up true p par forms h u = record {
  band = All-push (λ r. AreUp r.forms) p.band (record { forms = forms; parallel = par }) u.band h;
  behind = u.behind;
}
row_up false p par forms h u = record { band = u.band; behind = All-push IsItemUp p.behind (rows forms) u.behind h }

scalar_suits : (loops : List ℕ) (front : Bool) (p : Plan) (ns : List ℕ) → Suits loops p
    → Suits loops (if front then record p { leading = p.leading ++ ns ∷ [] }
    else record p { behind = p.behind ++ numbers ns ∷ [] })
scalar_suits loops true p ns s = record { band = s.band; behind = s.behind }
scalar_suits loops false p ns s =
    record { band = s.band; behind = All-push (IsFor loops) p.behind (numbers ns) s.behind tt }

scalar_up : (front : Bool) (p : Plan) (ns : List ℕ) → IsUp p
    → IsUp (if front then record p { leading = p.leading ++ ns ∷ [] }
    else record p { behind = p.behind ++ numbers ns ∷ [] })
scalar_up true p ns u = record { band = u.band; behind = u.behind }
scalar_up false p ns u = record { band = u.band; behind = All-push IsItemUp p.behind (numbers ns) u.behind tt }

pub nothing_is_laid : (loops : List ℕ) → IsLaid loops 0 nothing_laid
nothing_is_laid loops = record {
  suits = record { band = All-nil (λ r. AreFor loops r.forms); behind = All-nil (IsFor loops) };
  up = record { band = All-nil (λ r. AreUp r.forms); behind = All-nil IsItemUp };
  few = omega arith;
}

row_is_laid : (loops : List ℕ) (k : ℕ) (l : Laid) (r : Row) → map (λ p. length p.coefficients) r.parts ≡ loops
    → IsLaid loops k l → IsLaid loops (suc k) (row_laid l r.band r.parallel (forms_of r))
row_is_laid loops k l r h laid =
    let few = laid.few in
    record {
      suits = row_suits loops (r.band == 1) l.plan r.parallel (forms_of r) (lengths r.parts ∙ h) laid.suits;
      up = row_up (r.band == 1) l.plan r.parallel (forms_of r) (forms_up r.parts) laid.up;
      few = omega (arith, few);
    }

scalar_is_laid : (loops : List ℕ) (k : ℕ) (l : Laid) (ns : List ℕ) → IsLaid loops k l
    → IsLaid loops (suc k) (scalar_laid l ns)
scalar_is_laid loops k l ns laid =
    let few = laid.few in
    record {
      suits = scalar_suits loops (l.bands == 0) l.plan ns laid.suits;
      up = scalar_up (l.bands == 0) l.plan ns laid.up;
      few = omega (arith, few);
    }

-- what is said by a row's line
row_said_is : (o : Option Row) (other : Option Said) (r : Row) → or_else (option_map (λ q. row q) o) other ≡ Some (row r)
    → (o ≡ Some r) ⊎ (other ≡ Some (row r))
row_said_is (Some q) other r e = inl cc
row_said_is None other r e = inr e

no_row : (o : Option Scalar) (g : Option ℕ) (s : Option StepLine) (r : Row)
    → or_else (option_map (λ q. scalar q) o) (or_else (option_map (λ n. goal n) g) (option_map (λ t. step t) s))
    ≡ Some (row r) → ⊥
no_row (Some q) g s r e = cc
no_row None (Some n) s r e = cc
no_row None None (Some t) r e = cc
no_row None None None r e = cc

pub row_read : (loops : List ℕ) (line : Text) (r : Row) → said_in loops line ≡ Some (row r)
    → map (λ p. length p.coefficients) r.parts ≡ loops
row_read loops line r e = by_case (row_said_is (row_in loops line) _ r e)
  where
    by_case : (row_in loops line ≡ Some r)
        ⊎ (or_else (option_map (λ q. scalar q) (scalar_in (length loops) line)) (proof_in line) ≡ Some (row r))
        → map (λ p. length p.coefficients) r.parts ≡ loops
    by_case (inl h) = row_has loops line r h
    by_case (inr h) = absurd (no_row (scalar_in (length loops) line) (goal_in line) (step_in line) r h)

-- items: what passes all tests
row_chosen : (a b c : Bool) (x y z : Rejected) (l : Laid) (t : Stage)
    → laid_stage (if not a then Err x else if not b then Err y else if not c then Err z else Ok l) ≡ Ok t → laying l ≡ t
row_chosen true true true x y z l t e = cc
row_chosen true true false x y z l t e = absurd cc
row_chosen true false c x y z l t e = absurd cc
row_chosen false b c x y z l t e = absurd cc

scalar_chosen : (a b : Bool) (x y : Rejected) (l : Laid) (t : Stage)
    → laid_stage (if not a then Err x else if not b then Err y else Ok l) ≡ Ok t → laying l ≡ t
scalar_chosen true true x y l t e = cc
scalar_chosen true false x y l t e = absurd cc
scalar_chosen false b x y l t e = absurd cc

-- goals stay those of the plan
same_goals : (p q : Progress) (r : Result Progress Fault) → r ≡ Ok p → r ≡ Ok q → p ≡ q
same_goals p q r e h = cc

begun_goals : (p q : Progress) (left : List Dependence) → next_begun p left ≡ Ok q → q.goals ≡ p.goals
begun_goals p q [] e = absurd cc
begun_goals p q (d ∷ left) e = opened_goals (held (goal_run d)) e
  where
    opened_goals : (r : Result (List Affine) Fault) → begun_with p.goals left p.begun d r ≡ Ok q → q.goals ≡ p.goals
    opened_goals (Ok found) h = sym (ap (λ (s : Progress). s.goals) (same_goals _ q _ refl h))
    opened_goals (Err f) h = absurd cc

added_goals : (p q : Progress) (r : Result Affine Fault) → row_added p r ≡ Ok q → q.goals ≡ p.goals
added_goals p q (Ok g) e = sym (ap (λ (s : Progress). s.goals) (same_goals _ q _ refl e))
added_goals p q (Err f) e = absurd cc

abbrev Goes : List Dependence → Stage → Type 0
Goes goals t = (q : Progress) × (proving q ≡ t) × (q.goals ≡ goals)

went : (line : ℕ) (r : Result Progress Fault) (t : Stage) (goals : List Dependence)
    → ((q : Progress) → r ≡ Ok q → q.goals ≡ goals) → proving_stage (went_on line r) ≡ Ok t → Goes goals t
went line (Ok p) t goals f e = (p, cc, f p refl)
went line (Err x) t goals f e = absurd cc

goal_went : (k g : ℕ) (p : Progress) (t : Stage) → proving_stage (goal_judged k p g) ≡ Ok t → Goes p.goals t
goal_went k g p t e = by_test p.ended (g == suc p.begun) _ _ e
  where
    by_test : (a b : Bool) (x y : Rejected)
        → proving_stage (if not a then Err x else if not b then Err y else went_on (suc k) (goal_begun p)) ≡ Ok t
        → Goes p.goals t
    by_test true true x y h = went (suc k) (goal_begun p) t p.goals (λ q d. begun_goals p q p.left d) h
    by_test true false x y h = absurd cc
    by_test false b x y h = absurd cc

step_went : (k : ℕ) (p : Progress) (s : StepLine) (t : Stage) → proving_stage (step_judged k p s) ≡ Ok t
    → Goes p.goals t
step_went k p s t e = by_test (step_held s) _ e
  where
    by_test : (a : Bool) (x : Rejected)
        → proving_stage (if not a then Err x else went_on (suc k) (line_added p (step_of_line s))) ≡ Ok t
        → Goes p.goals t
    by_test true x h = went (suc k) (line_added p (step_of_line s)) t p.goals
        (λ q d. added_goals p q (row_said p.variables p.rows (step_of_line s)) d) h
    by_test false x h = absurd cc

first_went : (model : KernelModel) (k g : ℕ) (l : Laid) (t : Stage)
    → proving_stage (then_goals (goals_opened model k l) (λ p. goal_judged k p g)) ≡ Ok t
    → Goes (goals_in model l.plan) t
first_went model k g l t e = by_test (has_rows (loops_in model) l) _ e
  where
    by_test : (a : Bool) (x : Rejected)
        → proving_stage (then_goals (if not a then Err x else Ok (opening (goals_in model l.plan)))
        (λ p. goal_judged k p g)) ≡ Ok t → Goes (goals_in model l.plan) t
    by_test true x h = goal_went k g (opening (goals_in model l.plan)) t h
    by_test false x h = absurd cc

goes_on : (model : KernelModel) (plan : Plan) (k : ℕ) (ls : List Text) (t : Stage) → Suits (loops_in model) plan
    → Goes (goals_in model plan) t → IsStage model plan k ls t
goes_on model plan k ls t suits goes = subst (IsStage model plan k ls) goes.1 (suits, goes.2)

-- a line keeps what a stage has
kept : (model : KernelModel) (plan : Plan) (k : ℕ) (line : Text) (ls : List Text) (s t : Stage) (said : Option Said)
    → said_in (loops_in model) line ≡ said → IsStage model plan k (line ∷ ls) s → line_judged model k s said ≡ Ok t
    → IsStage model plan (suc k) ls t
kept model plan k line ls (laying l) t (Some (row r)) e h j =
    let loops = loops_in model in
    let m = row_laid l r.band r.parallel (forms_of r) in
    let plan_is = ap (λ o. plan_behind l o (λ n. plan_of_lines loops n ls)) (sym e) ∙ h.1 in
    subst (IsStage model plan (suc k) ls)
    (row_chosen (r.number == suc k) (is_next_band l r.band) (row_held r) _ _ _ m t j)
    (row_is_laid loops k l r (row_read loops line r e) h.0, plan_is)
kept model plan k line ls (laying l) t (Some (scalar s)) e h j =
    let loops = loops_in model in
    let m = scalar_laid l s.values in
    let plan_is = ap (λ o. plan_behind l o (λ n. plan_of_lines loops n ls)) (sym e) ∙ h.1 in
    subst (IsStage model plan (suc k) ls) (scalar_chosen (s.number == suc k) (are_held s.values) _ _ m t j)
    (scalar_is_laid loops k l s.values h.0, plan_is)
kept model plan k line ls (laying l) t (Some (goal g)) e h j =
    let loops = loops_in model in
    let plan_is : l.plan ≡ plan = ap (λ o. plan_behind l o (λ n. plan_of_lines loops n ls)) (sym e) ∙ h.1 in
    goes_on model plan (suc k) ls t (subst (Suits loops) plan_is h.0.suits)
    (subst (λ (p : Plan). Goes (goals_in model p) t) plan_is (first_went model k g l t j))
kept model plan k line ls (laying l) t (Some (step s)) e h j = absurd cc
kept model plan k line ls (laying l) t None e h j = absurd cc
kept model plan k line ls (proving p) t (Some (row r)) e h j = absurd cc
kept model plan k line ls (proving p) t (Some (scalar s)) e h j = absurd cc
kept model plan k line ls (proving p) t (Some (goal g)) e h j =
    goes_on model plan (suc k) ls t h.0 (subst (λ goals. Goes goals t) h.1 (goal_went k g p t j))
kept model plan k line ls (proving p) t (Some (step s)) e h j =
    goes_on model plan (suc k) ls t h.0 (subst (λ goals. Goes goals t) h.1 (step_went k p s t j))
kept model plan k line ls (proving p) t None e h j = absurd cc

pub stage_kept : (model : KernelModel) (plan : Plan) (k : ℕ) (line : Text) (ls : List Text) (s t : Stage)
    → IsStage model plan k (line ∷ ls) s → line_judged model k s (said_in (loops_in model) line) ≡ Ok t
    → IsStage model plan (suc k) ls t
stage_kept model plan k line ls s t h j = kept model plan k line ls s t (said_in (loops_in model) line) refl h j

pub can_go : (model : KernelModel) (plan : Plan) (k : ℕ) (ls : List Text) (s : Stage) → IsStage model plan k ls s
    → IsReady (loops_in model) k s
can_go model plan k ls (laying l) h = h.0
can_go model plan k ls (proving p) h = tt

pub first_stage : (model : KernelModel) (ls : List Text)
    → IsStage model (plan_of_lines (loops_in model) nothing_laid ls) 0 ls (laying nothing_laid)
first_stage model ls = (nothing_is_laid (loops_in model), refl)
