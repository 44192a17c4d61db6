-- Lines of a certificate that are read are printed ones.
use Rattle.scop_syntax.proofs.Common.{◌≡◌, ◌∙◌, ap, ap₂, sym, subst, refl, inl, inr, ◌⊎◌, ℕ, zero, suc, ◌≤◌, Bool, true}
use Rattle.scop_syntax.proofs.Common.{false, List, [], ◌∷◌, ◌++◌, map, length, append-nil, arith, ◌==◌, ◌≢◌, All}
use Rattle.scop_syntax.proofs.Common.{if◌then◌else◌, Option, Some, None, codes, option_map, All-cons, All-nil}
use Rattle.scop_syntax.proofs.Common.{none-some, same_Some}
use Rattle.std.proofs.lemmas.Bool.{true≢false}
use Rattle.std.proofs.lemmas.List.{append_assoc}
use Rattle.scop_lexer.specs.Bytes.{Text}
use Rattle.form_text.specs.Numerals.{numeral}
use Rattle.form_text.specs.Reading.{strip, when}
use Rattle.form_text.specs.View.{saturated}
use Rattle.schedule_lines.specs.Lines.{Row, Scalar, row_text, scalar_text}
use Rattle.schedule_lines.specs.Reading.{numeral_in, row_in, scalar_in, whole, with_first}
use Rattle.schedule_lines.specs.Saturated.{saturated_row, saturated_scalar}
use Rattle.schedule_lines.proofs.NumeralLemmas.{numeral_read}
use Rattle.schedule_lines.proofs.ReadLines.{first_some, strip_some, whole_ends}
use Rattle.schedule_lines.proofs.RowParts.{when_some, whole_is}
use Rattle.plan_check.specs.Printed.{IsSaid, goal_text, said_text, saturated_said, saturated_term, step_text, terms_text}
use Rattle.plan_check.specs.Text.{IsStep, Said, StepLine, TermLine, goal, goal_in, or_else, positive_in, proof_in, row}
use Rattle.plan_check.specs.Text.{said_in, scalar, some_terms_in, step, step_in, step_line, term_in, term_line, terms_in}

-- the first of two, or the second
pub or_some : {A : Type 0} (a b : Option A) (x : A) → or_else a b ≡ Some x → (a ≡ Some x) ⊎ (b ≡ Some x)
or_some None b x h = inr h
or_some (Some y) b x h = inl h

pub mapped_some : {A B : Type 0} (f : A → B) (o : Option A) (y : B) → option_map f o ≡ Some y
    → (x : A) × (o ≡ Some x) × (f x ≡ y)
mapped_some f None y h = absurd (none-some y h)
mapped_some f (Some x) y h = (x, refl, same_Some (f x) y h)

-- a goal
pub goal_read : (line : Text) (g : ℕ) → goal_in line ≡ Some g → (n : ℕ) × (line ≡ goal_text n) × (g ≡ saturated n)
goal_read line g h =
    let a = when_some (strip (codes "goal ") line) (λ a. when (numeral_in a) (λ n. whole n.0 n.1)) g h in
    let n = when_some (numeral_in a.0) (λ n. whole n.0 n.1) g a.2 in
    let number = numeral_read a.0 n.0 n.1 in
    let none = whole_ends n.0.0 n.0.1 g n.2 in
    let printed = strip_some (codes "goal ") line a.0 a.1
    ∙ (ap (λ t. codes "goal " ++ t) number.1
    ∙ (ap (λ t. codes "goal " ++ (numeral number.0 ++ t)) none
    ∙ ap (λ t. codes "goal " ++ t) (append-nil (numeral number.0)))) in
    (number.0, printed, sym (whole_is n.0.0 n.0.1 g n.2) ∙ number.2)

-- a number that is at least 1
unless_some : {A : Type 0} (t : Bool) (o : Option A) (x : A) → (if t then None else o) ≡ Some x
    → (t ≡ false) × (o ≡ Some x)
unless_some true o x h = absurd (none-some x h)
unless_some false o x h = (refl, h)

at_least_one : (n : ℕ) → (saturated n == 0) ≡ false → 1 ≤ n
at_least_one zero h = absurd (true≢false h)
at_least_one (suc n) h = omega arith

abbrev IsPositive : Text → ℕ × Text → Type 0
IsPositive text r = (n : ℕ) × (1 ≤ n) × (text ≡ numeral n ++ r.1) × (r.0 ≡ saturated n)

positive_read : (text : Text) (r : ℕ × Text) → positive_in text ≡ Some r → IsPositive text r
positive_read text r h =
    let n = when_some (numeral_in text) (λ n. if n.0 == 0 then None else Some n) r h in
    let some = unless_some (n.0.0 == 0) (Some n.0) r n.2 in
    let number = numeral_read text n.0 n.1 in
    let one = at_least_one number.0 (ap (λ k. k == 0) (sym number.2) ∙ some.0) in
    subst (IsPositive text) (same_Some n.0 r some.1) (number.0, one, number.1, number.2)

-- a term
abbrev term_text : TermLine → Text
term_text t = codes " " ++ (numeral t.row ++ (codes ":" ++ numeral t.factor))

abbrev IsTerm : Text → TermLine × Text → Type 0
IsTerm text r = (t : TermLine) × (1 ≤ t.factor) × (text ≡ term_text t ++ r.1) × (r.0 ≡ saturated_term t)

term_read : (text : Text) (r : TermLine × Text) → term_in text ≡ Some r → IsTerm text r
term_read text r h =
    let a = when_some (strip (codes " ") text) (λ a. when (numeral_in a) (λ k. when (strip (codes ":") k.1)
    (λ c. when (positive_in c) (λ m. Some (term_line k.0 m.0, m.1))))) r h in
    let k = when_some (numeral_in a.0) (λ k. when (strip (codes ":") k.1)
    (λ c. when (positive_in c) (λ m. Some (term_line k.0 m.0, m.1)))) r a.2 in
    let c = when_some (strip (codes ":") k.0.1) (λ c. when (positive_in c) (λ m. Some (term_line k.0.0 m.0, m.1))) r k.2 in
    let m = when_some (positive_in c.0) (λ m. Some (term_line k.0.0 m.0, m.1)) r c.2 in
    let row = numeral_read a.0 k.0 k.1 in
    let factor = positive_read c.0 m.0 m.1 in
    let behind = codes ":" ++ numeral factor.0 in
    let printed = strip_some (codes " ") text a.0 a.1
    ∙ (ap (λ t. codes " " ++ t) row.1
    ∙ (ap (λ t. codes " " ++ (numeral row.0 ++ t)) (strip_some (codes ":") k.0.1 c.0 c.1)
    ∙ (ap (λ t. codes " " ++ (numeral row.0 ++ (codes ":" ++ t))) factor.2
    ∙ ap (λ t. codes " " ++ t) (sym (append_assoc (numeral row.0) behind m.0.1))))) in
    subst (IsTerm text) (same_Some (term_line k.0.0 m.0.0, m.0.1) r m.2)
    (term_line row.0 factor.0, factor.1, printed, ap₂ term_line row.2 factor.3)

-- terms up to the line's end
abbrev AreTerms : Text → List TermLine × Text → Type 0
AreTerms text r =
    (ts : List TermLine) × All (λ t. 1 ≤ t.factor) ts × (text ≡ terms_text ts) × (r.0 ≡ map saturated_term ts)

terms_read : (k : ℕ) (text : Text) (r : List TermLine × Text) → terms_in k text ≡ Some r → AreTerms text r
terms_read zero text r h = absurd (none-some r h)
terms_read (suc k) [] r h =
    subst (AreTerms []) (same_Some ([], []) r h) ([], All-nil (λ t. 1 ≤ t.factor), refl, refl)
terms_read (suc k) (b ∷ bs) r h =
    let t = when_some (term_in (b ∷ bs)) (λ t. with_first t.0 (terms_in k t.1)) r h in
    let ts = first_some t.0.0 (terms_in k t.0.1) r t.2 in
    let one = term_read (b ∷ bs) t.0 t.1 in
    let more = terms_read k t.0.1 ts.0 ts.1 in
    subst (AreTerms (b ∷ bs)) ts.2 (
      one.0 ∷ more.0,
      All-cons (λ t. 1 ≤ t.factor) one.0 more.0 one.1 more.1,
      one.2 ∙ ap (λ u. term_text one.0 ++ u) more.2,
      ap₂ (λ x xs. x ∷ xs) one.3 more.3,
    )

some_read : (text : Text) (r : List TermLine × Text) → some_terms_in text ≡ Some r
    → (ts : List TermLine) × (ts ≢ []) × All (λ t. 1 ≤ t.factor) ts × (text ≡ terms_text ts) × (r.0 ≡ map saturated_term ts)
some_read [] r h = absurd (none-some r h)
some_read (b ∷ bs) r h =
    let ts = terms_read (length (b ∷ bs)) (b ∷ bs) r h in
    let some : ts.0 ≢ [] = λ e.
    let same = ap length (ts.2 ∙ ap terms_text e) in omega (arith, same) in
    (ts.0, some, ts.1, ts.2, ts.3)

-- a step
pub step_read : (line : Text) (t : StepLine) → step_in line ≡ Some t
    → (s : StepLine) × IsStep s × (s.terms ≢ []) × (line ≡ step_text s)
    × (t ≡ step_line (saturated s.divisor) (map saturated_term s.terms))
step_read line t h =
    let a = when_some (strip (codes "line ") line) (λ a. when (positive_in a) (λ d. when (some_terms_in d.1)
    (λ ts. Some (step_line d.0 ts.0)))) t h in
    let d = when_some (positive_in a.0) (λ d. when (some_terms_in d.1) (λ ts. Some (step_line d.0 ts.0))) t a.2 in
    let ts = when_some (some_terms_in d.0.1) (λ ts. Some (step_line d.0.0 ts.0)) t d.2 in
    let divisor = positive_read a.0 d.0 d.1 in
    let terms = some_read d.0.1 ts.0 ts.1 in
    let printed = strip_some (codes "line ") line a.0 a.1
    ∙ (ap (λ u. codes "line " ++ u) divisor.2 ∙ ap (λ u. codes "line " ++ (numeral divisor.0 ++ u)) terms.3) in (
      step_line divisor.0 terms.0,
      record { divisor = divisor.1; factors = terms.2 },
      terms.1,
      printed,
      sym (same_Some (step_line d.0.0 ts.0.0) t ts.2) ∙ ap₂ step_line divisor.3 terms.4,
    )

-- a line
abbrev IsPrinted : List ℕ → Text → Said → Type 0
IsPrinted loops line t = (s : Said) × IsSaid loops s × (line ≡ said_text s) × (t ≡ saturated_said s)

proof_printed : (loops : List ℕ) (line : Text) (t : Said) → proof_in line ≡ Some t → IsPrinted loops line t
proof_printed loops line t h =
    by_kind (or_some (option_map (λ g. goal g) (goal_in line)) (option_map (λ s. step s) (step_in line)) t h)
  where
    by_kind : ((option_map (λ g. goal g) (goal_in line) ≡ Some t) ⊎ (option_map (λ s. step s) (step_in line) ≡ Some t))
        → IsPrinted loops line t
    by_kind (inl e) =
        let m = mapped_some (λ g. goal g) (goal_in line) t e in
        let g = goal_read line m.0 m.1 in
        (goal g.0, tt, g.1, sym m.2 ∙ ap (λ n. goal n) g.2)
    by_kind (inr e) =
        let m = mapped_some (λ s. step s) (step_in line) t e in
        let s = step_read line m.0 m.1 in
        (step s.0, (s.1, s.2), s.3, sym m.2 ∙ ap (λ u. step u) s.4)

-- what the laws of items say of a line
abbrev pub RowsAre : List ℕ → Text → Type 0
RowsAre loops line =
    (s : Row) → row_in loops line ≡ Some s
    → (r : Row) × (map (λ p. length p.coefficients) r.parts ≡ loops) × (line ≡ row_text r) × (s ≡ saturated_row r)

abbrev pub ScalarsAre : ℕ → Text → Type 0
ScalarsAre n line =
    (t : Scalar) → scalar_in n line ≡ Some t
    → (s : Scalar) × (length s.values ≡ n) × (line ≡ scalar_text s) × (t ≡ saturated_scalar s)

later_printed : (loops : List ℕ) (line : Text) (t : Said) → ScalarsAre (length loops) line
    → or_else (option_map (λ s. scalar s) (scalar_in (length loops) line)) (proof_in line) ≡ Some t
    → IsPrinted loops line t
later_printed loops line t scalars h =
    by_kind (or_some (option_map (λ s. scalar s) (scalar_in (length loops) line)) (proof_in line) t h)
  where
    by_kind : ((option_map (λ s. scalar s) (scalar_in (length loops) line) ≡ Some t) ⊎ (proof_in line ≡ Some t))
        → IsPrinted loops line t
    by_kind (inl e) =
        let m = mapped_some (λ s. scalar s) (scalar_in (length loops) line) t e in
        let s = scalars m.0 m.1 in
        (scalar s.0, s.1, s.2, sym m.2 ∙ ap (λ u. scalar u) s.3)
    by_kind (inr e) = proof_printed loops line t e

pub said_printed : (loops : List ℕ) (line : Text) (t : Said) → RowsAre loops line → ScalarsAre (length loops) line
    → said_in loops line ≡ Some t → IsPrinted loops line t
said_printed loops line t rows scalars h = by_kind (or_some (option_map (λ r. row r) (row_in loops line)) later t h)
  where
    later : Option Said
    later = or_else (option_map (λ s. scalar s) (scalar_in (length loops) line)) (proof_in line)

    by_kind : ((option_map (λ r. row r) (row_in loops line) ≡ Some t) ⊎ (later ≡ Some t)) → IsPrinted loops line t
    by_kind (inl e) =
        let m = mapped_some (λ r. row r) (row_in loops line) t e in
        let r = rows m.0 m.1 in
        (row r.0, r.1, r.2, sym m.2 ∙ ap (λ u. row u) r.3)
    by_kind (inr e) = later_printed loops line t scalars e
