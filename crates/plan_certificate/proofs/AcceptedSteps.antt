-- The lines of a derivation, and those of goals one by one, are accepted up to the last goal.
use Rattle.scop_syntax.proofs.Common.{◌≡◌, ◌≢◌, ◌∙◌, ap, ap₂, sym, refl, subst, ℕ, suc, ◌+◌, ◌^◌, ◌<◌, ◌≤◌, Bool, true}
use Rattle.scop_syntax.proofs.Common.{false, ℤ, pos, List, [], ◌∷◌, ◌++◌, length, map, codes, All, arith, append_assoc}
use Rattle.scop_syntax.proofs.Common.{unsigned_abs, inl, inr, add-one, ◌==◌, ◌&&◌, Option, Some, None, Result, Ok, Err}
use Rattle.scop_syntax.proofs.Common.{if◌then◌else◌, list_all, All-nil, All-cons, All-head, All-tail, In, Affine}
use Rattle.std.proofs.lemmas.List.{length-append}
use Rattle.scop_lexer.specs.Bytes.{Text}
use Rattle.wide_math.specs.declared.Wide.{Wide}
use Rattle.wide_math.specs.Checked.{◌>>=◌}
use Rattle.affine_forms.specs.Parts.{variables_of}
use Rattle.integer_sets.specs.Constraints.{variables_in}
use Rattle.iteration_domains.specs.Dependence.{Dependence}
use Rattle.iteration_domains.specs.Model.{KernelModel}
use Rattle.form_text.specs.View.{saturated}
use Rattle.plan_check.specs.Derivations.{Step, Told, derived, held, is_contradiction, row_said}
use Rattle.plan_check.specs.Goals.{IsSizedGoal, loops_in}
use Rattle.plan_check.specs.Judged.{Rejected, factor_held, goal_judged, is_held, line_judged, lines_judged, proving}
use Rattle.plan_check.specs.Judged.{proving_stage, row_named, step_held, step_of_line, term_named, went_on}
use Rattle.plan_check.specs.Printed.{goal_text, saturated_term, step_text}
use Rattle.plan_check.specs.Progress.{Progress, begun_with, both_run, goal_begun, goal_run, line_added, next_begun, opened}
use Rattle.plan_check.specs.Progress.{none_left, with_row as row_added}
use Rattle.plan_check.specs.Text.{TermLine, goal, lines_of, step, step_line, term_line}
use Rattle.plan_check.specs.declared.lines.Term.{Term}
use Rattle.plan_check.specs.declared.lines.Fault.{Fault}
use Rattle.plan_check.proofs.PlanOrder.{lt_true}
use Rattle.plan_check.proofs.SoundDerivations.{then_is}
use Rattle.plan_check.proofs.Progresses.{run_sized}
use Rattle.plan_certificate.specs.Certificates.{derivation_of, derivation_over, in_front, proof_text, proofs_text}
use Rattle.plan_certificate.specs.Certificates.{IsNarrowStep, step_line_of, steps_text, term_line_of}
use Rattle.plan_certificate.specs.Derivation.{derivation}
use Rattle.plan_certificate.specs.Written.{IsWritten, IsWrittenNumber}
use Rattle.plan_certificate.proofs.AcceptedLines.{IsPlain, PrintedLaws, line_goes, line_length, passes, same_number, saturated_same}

-- the laws of derivations: each is one, and can be written
pub record DerivationLaws : Type 0 where
  pub derived : (n : ℕ) (rows : List Affine) (steps : List Step) → All (λ f. variables_of f ≡ n) rows
      → derivation n rows ≡ Some steps → derived n 0 false rows steps ≡ Ok true
  pub written : (n : ℕ) (rows : List Affine) (steps : List Step) → derivation n rows ≡ Some steps → All IsWritten steps

held_less : (n : ℕ) → is_held n ≡ true → n < 2 ^ 127
held_less n h = grind arith

-- a number that is written
number_is : (z : ℤ) → IsWrittenNumber z → pos (unsigned_abs z) ≡ z
number_is z w = ap (λ (x : ℤ). pos (unsigned_abs x)) w.is ∙ sym w.is

size_is : (z : ℤ) (w : IsWrittenNumber z) → unsigned_abs z ≡ w.size
size_is z w = ap unsigned_abs w.is

size_held : (z : ℤ) → IsWrittenNumber z → is_held (unsigned_abs z) ≡ true
size_held z w = ap is_held (size_is z w) ∙ w.held

size_positive : (z : ℤ) → IsWrittenNumber z → 1 ≤ unsigned_abs z
size_positive z w = subst (λ (n : ℕ). 1 ≤ n) (sym (size_is z w)) w.positive

size_saturated : (z : ℤ) → IsWrittenNumber z → saturated (unsigned_abs z) ≡ unsigned_abs z
size_saturated z w = saturated_same (unsigned_abs z) (held_less (unsigned_abs z) (size_held z w))

-- a term as its line is read
row_same : (k : ℕ) → k < 2 ^ 64 → row_named k ≡ k
row_same k h = ap (λ (b : Bool). if b then k else 0) (lt_true k (2 ^ 64) h)

term_same : (t : Term) → IsWrittenNumber t.factor → t.row < 2 ^ 64 → term_named (term_line_of t) ≡ t
term_same t w h =
    ap₂ (λ (k : ℕ) (z : ℤ). record { row = k; factor = z }) (row_same t.row h) (number_is t.factor w)

terms_same : (ts : List Term) → All (λ t. IsWrittenNumber t.factor) ts → All (λ t. t.row < 2 ^ 64) ts
    → map term_named (map term_line_of ts) ≡ ts
terms_same [] w h = refl
terms_same (t ∷ ts) w h =
    ap₂ (λ (x : Term) (xs : List Term). x ∷ xs)
    (term_same t (All-head (λ t. IsWrittenNumber t.factor) t ts w) (All-head (λ t. t.row < 2 ^ 64) t ts h))
    (terms_same ts (All-tail (λ t. IsWrittenNumber t.factor) t ts w) (All-tail (λ t. t.row < 2 ^ 64) t ts h))

step_same : (s : Step) → IsWritten s → IsNarrowStep s → step_of_line (step_line_of s) ≡ s
step_same s w h =
    ap₂ (λ (z : ℤ) (ts : List Term). record { divisor = z; terms = ts }) (number_is s.divisor w.divisor)
    (terms_same s.terms w.factors h)

-- its numbers are read as they are printed
term_plain : (t : Term) → IsWrittenNumber t.factor → t.row < 2 ^ 64
    → saturated_term (term_line_of t) ≡ term_line_of t
term_plain t w h = ap₂ term_line (saturated_same t.row (omega arith)) (size_saturated t.factor w)

terms_plain : (ts : List Term) → All (λ t. IsWrittenNumber t.factor) ts → All (λ t. t.row < 2 ^ 64) ts
    → map saturated_term (map term_line_of ts) ≡ map term_line_of ts
terms_plain [] w h = refl
terms_plain (t ∷ ts) w h =
    ap₂ (λ (x : TermLine) (xs : List TermLine). x ∷ xs)
    (term_plain t (All-head (λ t. IsWrittenNumber t.factor) t ts w) (All-head (λ t. t.row < 2 ^ 64) t ts h))
    (terms_plain ts (All-tail (λ t. IsWrittenNumber t.factor) t ts w) (All-tail (λ t. t.row < 2 ^ 64) t ts h))

factors_positive : (ts : List Term) → All (λ t. IsWrittenNumber t.factor) ts
    → All (λ (t : TermLine). 1 ≤ t.factor) (map term_line_of ts)
factors_positive [] w = All-nil (λ (t : TermLine). 1 ≤ t.factor)
factors_positive (t ∷ ts) w =
    All-cons (λ (t : TermLine). 1 ≤ t.factor) (term_line_of t) (map term_line_of ts)
    (size_positive t.factor (All-head (λ t. IsWrittenNumber t.factor) t ts w))
    (factors_positive ts (All-tail (λ t. IsWrittenNumber t.factor) t ts w))

some_terms : (ts : List Term) → ts ≢ [] → map term_line_of ts ≢ []
some_terms [] some e = some refl
some_terms (t ∷ ts) some e = cc

pub step_plain : (loops : List ℕ) (s : Step) → IsWritten s → IsNarrowStep s → IsPlain loops (step (step_line_of s))
step_plain loops s w h = record {
  said = (
    record {
      divisor = size_positive s.divisor w.divisor;
      factors = factors_positive s.terms w.factors;
    },
    some_terms s.terms w.some,
  );
  same = ap₂ (λ (d : ℕ) (ts : List TermLine). step (step_line d ts)) (size_saturated s.divisor w.divisor)
      (terms_plain s.terms w.factors h);
}

-- 128 bits hold its numbers
factors_held : (ts : List Term) → All (λ t. IsWrittenNumber t.factor) ts
    → list_all factor_held (map term_line_of ts) ≡ true
factors_held [] w = refl
factors_held (t ∷ ts) w =
    ap₂ (λ (a b : Bool). a && b) (size_held t.factor (All-head (λ t. IsWrittenNumber t.factor) t ts w))
    (factors_held ts (All-tail (λ t. IsWrittenNumber t.factor) t ts w))

step_is_held : (s : Step) → IsWritten s → step_held (step_line_of s) ≡ true
step_is_held s w =
    ap₂ (λ (a b : Bool). a && b) (size_held s.divisor w.divisor) (factors_held s.terms w.factors)

-- the open goal with a row more
abbrev more : Progress → Affine → Progress
more p g = record p { rows = p.rows ++ g ∷ []; ended = is_contradiction g }

step_goes : (model : KernelModel) (k : ℕ) (p : Progress) (s : Step) (g : Affine) → IsWritten s → IsNarrowStep s
    → row_said p.variables p.rows s ≡ Ok g
    → line_judged model k (proving p) (Some (step (step_line_of s))) ≡ Ok (proving (more p g))
step_goes model k p s g w h is =
    ap proving_stage (passes (step_held (step_line_of s)) _ (went_on (suc k) (line_added p (step_of_line (step_line_of s))))
    (step_is_held s w))
    ∙ (ap (λ (l : Step). proving_stage (went_on (suc k) (line_added p l))) (step_same s w h)
    ∙ ap (λ (r : Result Affine Fault). proving_stage (went_on (suc k) (row_added p r))) is)

-- lines come to a goal that is proved, behind which others are left
pub record GoesOn (model : KernelModel) (from : Result Bool Rejected) (left : List Dependence) (begun : ℕ) (rest : Text)
    : Type 0 where
  pub lines : ℕ
  pub at : Progress
  pub ended : at.ended ≡ true
  pub left_is : at.left ≡ left
  pub begun_is : at.begun ≡ begun
  pub same : from ≡ lines_judged model lines (proving at) (lines_of rest)

ended_is : (b : Bool) (e : Told) → (if b then Ok true else Err e) ≡ Ok true → b ≡ true
ended_is true e h = refl
ended_is false e h = absurd cc

pub steps_go : PrintedLaws → (model : KernelModel) (k j : ℕ) (p : Progress) (steps : List Step) (rest : Text)
    → derived p.variables j p.ended p.rows steps ≡ Ok true → All IsWritten steps → All IsNarrowStep steps
    → GoesOn model (lines_judged model k (proving p) (lines_of (steps_text steps ++ rest))) p.left p.begun rest
steps_go laws model k j p [] rest run w h = record {
  lines = k;
  at = p;
  ended = ended_is p.ended _ run;
  left_is = refl;
  begun_is = refl;
  same = refl;
}
steps_go laws model k j p (s ∷ steps) rest run w h =
    let next = then_is (suc j) (row_said p.variables p.rows s)
    (λ g. derived p.variables (suc j) (is_contradiction g) (p.rows ++ g ∷ []) steps) true run in
    let here = All-head IsWritten s steps w in
    let narrow = All-head IsNarrowStep s steps h in
    let behind = steps_go laws model (suc k) (suc j) (more p next.0) steps rest next.2 (All-tail IsWritten s steps w)
    (All-tail IsNarrowStep s steps h) in
    record {
      lines = behind.lines;
      at = behind.at;
      ended = behind.ended;
      left_is = behind.left_is;
      begun_is = behind.begun_is;
      same = ap (λ (t : Text). lines_judged model k (proving p) (lines_of t))
          (append_assoc (step_text (step_line_of s) ++ codes "\n") (steps_text steps) rest)
          ∙ (line_goes laws model k (proving p) (proving (more p next.0)) (step (step_line_of s)) (steps_text steps ++ rest)
          (step_plain (loops_in model) s here narrow) (step_goes model k p s next.0 here narrow next.1)
          ∙ behind.same);
    }

-- a goal with its derivation
pub record Derives (d : Dependence) (steps : List Step) : Type 0 where
  pub rows : List Affine
  pub run : goal_run d ≡ Ok rows
  pub derives : derived (variables_in d.system) 0 false rows steps ≡ Ok true
  pub written : All IsWritten steps
  pub narrow : All IsNarrowStep steps

-- the rows of a goal are over its variables
goal_sized : (d : Dependence) (rows : List Affine) → IsSizedGoal d → goal_run d ≡ Ok rows
    → All (λ f. variables_of f ≡ variables_in d.system) rows
goal_sized d rows sized run = by_run (both_run d.system.equalities) refl run
  where
    by_run : (r : Result (List Affine) Wide) → both_run d.system.equalities ≡ r
        → (r >>= λ es. Ok (es ++ d.system.rows)) ≡ Ok rows → All (λ f. variables_of f ≡ variables_in d.system) rows
    by_run (Err e) is h = absurd cc
    by_run (Ok found) is h =
        let all : found ++ d.system.rows ≡ rows = cc in
        run_sized (variables_in d.system) d.system.equalities d.system.rows found rows sized.equalities_sized
        sized.rows_sized (ap held is) (sym all)

pub derivation_derives : DerivationLaws → (d : Dependence) (steps : List Step) → IsSizedGoal d
    → derivation_of d ≡ Some steps → All IsNarrowStep steps → Derives d steps
derivation_derives laws d steps sized is narrow = by_run (goal_run d) refl is
  where
    by_run : (r : Result (List Affine) Wide) → goal_run d ≡ r
        → derivation_over (variables_in d.system) r ≡ Some steps → Derives d steps
    by_run (Err e) run h = absurd cc
    by_run (Ok rows) run h = record {
      rows = rows;
      run = run;
      derives = laws.derived (variables_in d.system) rows steps (goal_sized d rows sized run) h;
      written = laws.written (variables_in d.system) rows steps h;
      narrow = narrow;
    }

-- the line of the next goal
pub goal_plain : (loops : List ℕ) (g : ℕ) → g < 2 ^ 127 → IsPlain loops (goal g)
goal_plain loops g h = record { said = tt; same = ap goal (saturated_same g h) }

goal_goes : (k : ℕ) (p : Progress) (d : Dependence) (left : List Dependence) (rows : List Affine) → p.ended ≡ true
    → p.left ≡ d ∷ left → goal_run d ≡ Ok rows
    → goal_judged k p (suc p.begun) ≡ Ok (opened p.goals left p.begun d rows)
goal_goes k p d left rows ended is run =
    passes p.ended _ _ ended
    ∙ (passes (suc p.begun == suc p.begun) _ (went_on (suc k) (goal_begun p)) (same_number (suc p.begun))
    ∙ (ap (λ (ds : List Dependence). went_on (suc k) (next_begun p ds)) is
    ∙ ap (λ (r : Result (List Affine) Wide). went_on (suc k) (begun_with p.goals left p.begun d (held r))) run))

-- what is in front of others
pub front_is : (g : ℕ) (o : Option (List Step)) (others : Result Text ℕ) (text : Text) → in_front g o others ≡ Ok text
    → (steps : List Step) × (rest : Text) × (o ≡ Some steps) × (others ≡ Ok rest) × (text ≡ proof_text g steps ++ rest)
front_is g None others text h = absurd cc
front_is g (Some steps) (Ok rest) text h = (steps, rest, refl, refl, cc)
front_is g (Some steps) (Err e) text h = absurd cc

-- each of these goals has a derivation that can be read
abbrev pub AreDerived : List Dependence → Type 0
AreDerived goals = (d : Dependence) (steps : List Step) → In d goals → derivation_of d ≡ Some steps → Derives d steps

-- a goal's lines come to the goals behind it
goal_lines : PrintedLaws → (model : KernelModel) (k : ℕ) (p : Progress) (d : Dependence) (left : List Dependence)
    (steps : List Step) (rest : Text) → Derives d steps → p.ended ≡ true → p.left ≡ d ∷ left → suc p.begun < 2 ^ 127
    → GoesOn model (lines_judged model k (proving p) (lines_of (proof_text (suc p.begun) steps ++ rest))) left
    (p.begun + 1) rest
goal_lines laws model k p d left steps rest here ended is few =
    let q = opened p.goals left p.begun d here.rows in
    let behind = steps_go laws model (suc k) 0 q steps rest here.derives here.written here.narrow in
    record {
      lines = behind.lines;
      at = behind.at;
      ended = behind.ended;
      left_is = behind.left_is;
      begun_is = behind.begun_is;
      same = ap (λ (t : Text). lines_judged model k (proving p) (lines_of t))
          (append_assoc (goal_text (suc p.begun) ++ codes "\n") (steps_text steps) rest)
          ∙ (line_goes laws model k (proving p) (proving q) (goal (suc p.begun)) (steps_text steps ++ rest)
          (goal_plain (loops_in model) (suc p.begun) few)
          (ap proving_stage (goal_goes k p d left here.rows ended is here.run)) ∙ behind.same);
    }

proof_length : (g : ℕ) (steps : List Step) (text rest : Text) → text ≡ proof_text g steps ++ rest
    → suc (length rest) ≤ length text
proof_length g steps text rest is =
    let whole = ap length (is ∙ append_assoc (goal_text g ++ codes "\n") (steps_text steps) rest) in
    let line = line_length (goal_text g) (steps_text steps ++ rest) in
    let lines = length-append (steps_text steps) rest in
    omega arith

goals_end : (model : KernelModel) (from : Result Bool Rejected) (left : List Dependence) (begun : ℕ) (rest : Text)
    → GoesOn model from left (begun + 1) rest → suc begun + length rest < 2 ^ 127
    → proofs_text (suc (suc begun)) left ≡ Ok rest
    → ((k : ℕ) (q : Progress) → q.ended ≡ true → q.left ≡ left → q.begun + length rest < 2 ^ 127
    → proofs_text (suc q.begun) left ≡ Ok rest → lines_judged model k (proving q) (lines_of rest) ≡ Ok true)
    → from ≡ Ok true
goals_end model from left begun rest goes few run next =
    let number = goes.begun_is in
    goes.same
    ∙ next goes.lines goes.at goes.ended goes.left_is (omega arith)
    (ap (λ (n : ℕ). proofs_text (suc n) left) (number ∙ add-one begun) ∙ run)

pub goals_go : PrintedLaws → (model : KernelModel) (k : ℕ) (p : Progress) (goals : List Dependence) (text : Text)
    → AreDerived goals → p.ended ≡ true → p.left ≡ goals → p.begun + length text < 2 ^ 127
    → proofs_text (suc p.begun) goals ≡ Ok text → lines_judged model k (proving p) (lines_of text) ≡ Ok true
goals_go laws model k p [] text are ended is few run =
    let none : [] ≡ text = cc in
    subst (λ (t : Text). lines_judged model k (proving p) (lines_of t) ≡ Ok true) none
    (passes p.ended _ _ ended ∙ passes (none_left p.left) _ (Ok true) (ap none_left is))
goals_go laws model k p (d ∷ goals) text are ended is few run =
    let front = front_is (suc p.begun) (derivation_of d) (proofs_text (suc (suc p.begun)) goals) text run in
    let longer = proof_length (suc p.begun) front.0 text front.1 front.4 in
    ap (λ (t : Text). lines_judged model k (proving p) (lines_of t)) front.4
    ∙ goals_end model _ goals p.begun front.1
    (goal_lines laws model k p d goals front.0 front.1 (are d front.0 (inl refl) front.2) ended is (omega arith))
    (omega arith) front.3
    (λ j q done left small more. goals_go laws model j q goals front.1 (λ e ss h i. are e ss (inr h) i) done left small
    more)
