-- The numbers of a step that was read are at least 1.
use Rattle.scop_syntax.proofs.Common.{◌≡◌, sym, refl, subst, ℕ, zero, suc, ◌≤◌, Bool, true, false, List, [], ◌∷◌}
use Rattle.scop_syntax.proofs.Common.{length, arith, ◌==◌, ◌≤ℤ◌, if◌then◌else◌, pos, Option, Some, None, All, codes}
use Rattle.scop_syntax.proofs.Common.{option_map, false≢true, ints, All-nil, All-cons, All-map, none-some, same_Some}
use Rattle.std.specs.List.{slice_index_or}
use Rattle.scop_lexer.specs.Bytes.{Text}
use Rattle.form_text.specs.Reading.{strip}
use Rattle.schedule_lines.specs.Lines.{Row, Scalar}
use Rattle.schedule_lines.specs.Reading.{numeral_in, row_in, scalar_in}
use Rattle.schedule_lines.proofs.RowParts.{when_some}
use Rattle.plan_check.specs.Derivations.{IsLine}
use Rattle.plan_check.specs.Judged.{step_of_line, term_named}
use Rattle.plan_check.specs.Text.{IsStep, Said, StepLine, TermLine, goal, goal_in, or_else, positive_in, row, said_in, scalar}
use Rattle.plan_check.specs.Text.{some_terms_in, step, step_in, term_in, terms_in}
use Rattle.plan_check.specs.steps.Stages.{HasFactors}

if_not : {A : Type 0} (t : Bool) (a b : A) → (if t then None else Some a) ≡ Some b → (t ≡ false) × (a ≡ b)
if_not true a b e = absurd (none-some b e)
if_not false a b e = (refl, same_Some a b e)

at_least_one : (n : ℕ) → (n == 0) ≡ false → 1 ≤ n
at_least_one zero e = absurd (false≢true (sym e))
at_least_one (suc n) e = omega arith

positive_is : (text : Text) (n : ℕ × Text) → positive_in text ≡ Some n → 1 ≤ n.0
positive_is text n e =
    let m = when_some (numeral_in text) _ n e in
    let t = if_not (m.0.0 == 0) m.0 n m.2 in
    subst (λ (k : ℕ × Text). 1 ≤ k.0) t.1 (at_least_one m.0.0 t.0)

term_is : (text : Text) (t : TermLine × Text) → term_in text ≡ Some t → 1 ≤ t.0.factor
term_is text t e =
    let a = when_some (strip (codes " ") text) _ t e in
    let k = when_some (numeral_in a.0) _ t a.2 in
    let c = when_some (strip (codes ":") k.0.1) _ t k.2 in
    let m = when_some (positive_in c.0) _ t c.2 in
    subst (λ (u : TermLine × Text). 1 ≤ u.0.factor) (same_Some _ t m.2) (positive_is c.0 m.0 m.1)

terms_are : (k : ℕ) (text : Text) (ts : List TermLine × Text) → terms_in k text ≡ Some ts
    → All (λ t. 1 ≤ t.factor) ts.0
terms_are zero text ts e = absurd (none-some ts e)
terms_are (suc k) [] ts e =
    subst (λ (us : List TermLine × Text). All (λ t. 1 ≤ t.factor) us.0) (same_Some _ ts e) (All-nil (λ t. 1 ≤ t.factor))
terms_are (suc k) (b ∷ bs) ts e =
    let t = when_some (term_in (b ∷ bs)) _ ts e in
    let us = when_some (terms_in k t.0.1) _ ts t.2 in
    subst (λ (vs : List TermLine × Text). All (λ t. 1 ≤ t.factor) vs.0) (same_Some _ ts us.2)
    (All-cons (λ t. 1 ≤ t.factor) t.0.0 us.0.0 (term_is (b ∷ bs) t.0 t.1) (terms_are k t.0.1 us.0 us.1))

some_terms_are : (text : Text) (ts : List TermLine × Text) → some_terms_in text ≡ Some ts
    → All (λ t. 1 ≤ t.factor) ts.0
some_terms_are [] ts e = absurd (none-some ts e)
some_terms_are (b ∷ bs) ts e = terms_are (length (b ∷ bs)) (b ∷ bs) ts e

step_is : (text : Text) (s : StepLine) → step_in text ≡ Some s → IsStep s
step_is text s e =
    let a = when_some (strip (codes "line ") text) _ s e in
    let d = when_some (positive_in a.0) _ s a.2 in
    let ts = when_some (some_terms_in d.0.1) _ s d.2 in
    subst IsStep (same_Some _ s ts.2)
    (record { divisor = positive_is a.0 d.0 d.1; factors = some_terms_are d.0.1 ts.0 ts.1 })

step_said : (a : Option Row) (b : Option Scalar) (g : Option ℕ) (o : Option StepLine) (s : StepLine)
    → or_else (option_map (λ q. row q) a) (or_else (option_map (λ q. scalar q) b)
    (or_else (option_map (λ n. goal n) g) (option_map (λ t. step t) o))) ≡ Some (step s) → o ≡ Some s
step_said (Some q) b g o s e = absurd cc
step_said None (Some q) g o s e = absurd cc
step_said None None (Some n) o s e = absurd cc
step_said None None None (Some t) s e = cc
step_said None None None None s e = absurd cc

pub factors_said : (loops : List ℕ) (line : Text) (s : Said) → said_in loops line ≡ Some s → HasFactors s
factors_said loops line (row r) e = tt
factors_said loops line (scalar v) e = tt
factors_said loops line (goal g) e = tt
factors_said loops line (step s) e = step_is line s
    (step_said (row_in loops line) (scalar_in (length loops) line) (goal_in line) (step_in line) s e)

wide_one : (n : ℕ) → 1 ≤ n → pos 1 ≤ℤ pos n
wide_one n h = omega (arith, ints, h)

pub lines_are : (s : StepLine) → IsStep s → IsLine (step_of_line s)
lines_are s h = record {
  divisor = wide_one s.divisor h.divisor;
  factors = All-map (λ t. pos 1 ≤ℤ t.factor) term_named s.terms
      (λ k d b. wide_one (slice_index_or s.terms k d).factor (h.factors k d b));
}
