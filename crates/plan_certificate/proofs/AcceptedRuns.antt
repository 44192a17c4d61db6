-- The lines of a run are accepted by the checker, and are such as are written.
use Rattle.scop_syntax.proofs.Common.{◌≡◌, ◌≢◌, ℕ, zero, suc, ◌≤◌, ◌/◌, ℤ, pos, negsuc, Bool, true, false, List, []}
use Rattle.scop_syntax.proofs.Common.{◌∷◌, ◌++◌, length, map, ◌*◌, All, refl, sym, ◌∙◌, ap, subst, arith, append_assoc}
use Rattle.scop_syntax.proofs.Common.{unsigned_abs, Option, Some, None, Result, Ok, Err, if◌then◌else◌, nat_eq, nat_le}
use Rattle.scop_syntax.proofs.Common.{nat_lt, ◌&&◌, ⊤, All-append, All-cons, All-head, All-nil, All-tail, Affine}
use Rattle.scop_syntax.proofs.Common.{content}
use Rattle.std.proofs.lemmas.List.{length-append}
use Rattle.whole_numbers.specs.Content.{gcd_of}
use Rattle.fractions.specs.Elimination.{coefficient_of, is_negative, is_positive, is_zero}
use Rattle.plan_check.specs.declared.lines.Term.{Term}
use Rattle.plan_check.specs.declared.lines.Fault.{Fault}
use Rattle.plan_check.specs.Derivations.{Step, named, sum_said, row_said, is_contradiction, then_row, derived}
use Rattle.plan_check.specs.Derivations.{renumbered, moved, pruned}
use Rattle.plan_check.specs.Judged.{is_held}
use Rattle.plan_check.proofs.PrunedDerivations.{needless_left_out}
use Rattle.plan_certificate.specs.Derivation.{State, Outcome, goes, ended, passed, and_then, row_of, times, at_least_one}
use Rattle.plan_certificate.specs.Derivation.{divisor_of, with_row, with_sum, with_terms, contradiction_in, divided_from}
use Rattle.plan_certificate.specs.Derivation.{with_places, chosen, size_at, paired, pair, pairs_with, pairs}
use Rattle.plan_certificate.specs.Derivation.{eliminated_by, eliminated, all_eliminated, start, run_by, run, needed}
use Rattle.plan_certificate.specs.Derivation.{needed_lines, lines_of, derivation}
use Rattle.plan_certificate.specs.Written.{IsWritten, IsWrittenNumber}
use Rattle.plan_certificate.specs.steps.States.{going_on, line_of}
use Rattle.plan_certificate.proofs.ClosedLines.{needed_closed}
use Rattle.plan_certificate.proofs.CommonShares.{share_positive}

-- a property of a state that goes on, and one of lines that have ended
abbrev AllOf : (State → Type 0) → (List Step → Type 0) → Outcome → Type 0
AllOf P Q (goes s) = P s
AllOf P Q (ended lines) = Q lines
AllOf P Q passed = ⊤

then_all : (P R : State → Type 0) (Q : List Step → Type 0) (o : Outcome) (next : State → Outcome) → AllOf P Q o
    → ((s : State) → P s → AllOf R Q (next s)) → AllOf R Q (and_then o next)
then_all P R Q (goes s) next h more = more s h
then_all P R Q (ended lines) next h more = h
then_all P R Q passed next h more = tt

all_as : (P R : State → Type 0) (Q : List Step → Type 0) (o : Outcome) → AllOf P Q o
    → ((s : State) → P s → R s) → AllOf R Q o
all_as P R Q (goes s) h more = more s h
all_as P R Q (ended lines) h more = h
all_as P R Q passed h more = tt

-- terms that can be written
record AreTerms (terms : List Term) : Type 0 where
  factors : All (λ t. IsWrittenNumber t.factor) terms
  rows : All (λ t. 1 ≤ t.row) terms
  some : terms ≢ []

-- a line gives its row
derived_next : (n k : ℕ) (rows : List Affine) (l : Step) (g : Affine) (more : List Step) → row_said n rows l ≡ Ok g
    → derived n k false rows (l ∷ more) ≡ derived n (suc k) (is_contradiction g) (rows ++ g ∷ []) more
derived_next n k rows l g more e =
    ap (λ (r : Result Affine Fault). then_row (suc k) r
    (λ h. derived n (suc k) (is_contradiction h) (rows ++ h ∷ []) more)) e

-- a coefficient stays when rows are put behind
size_kept : (v : ℕ) (rows more : List Affine) (p : ℕ) → 1 ≤ size_at v rows p → 1 ≤ size_at v (rows ++ more) p
size_kept v [] more p h = absurd (omega (arith, h))
size_kept v (r ∷ rows) more zero h = h
size_kept v (r ∷ rows) more (suc p) h = size_kept v rows more p h

module _ (n : ℕ) (own : List Affine) where
  -- the lines so far are accepted, and give the rows
  record Sound (s : State) : Type 0 where
    derives : (more : List Step)
        → derived n 0 false own (s.lines ++ more) ≡ derived n (length s.lines) false s.rows more
    written : All IsWritten s.lines

  -- lines are accepted up to a contradiction
  pub record SoundEnd (lines : List Step) : Type 0 where
    pub derives : derived n 0 false own lines ≡ Ok true
    pub written : All IsWritten lines

  -- a later state, with the coefficients of an earlier one
  record Keeps (first s : State) : Type 0 where
    sound : Sound s
    sizes : (v p : ℕ) → 1 ≤ size_at v first.rows p → 1 ≤ size_at v s.rows p

  row_all : (first s : State) (l : Step) (r : Result Affine Fault) → Keeps first s → IsWritten l
      → row_said n s.rows l ≡ r → AllOf (Keeps first) SoundEnd (with_row s l r)
  row_all first s l (Err f) k w e = tt
  row_all first s l (Ok g) k w e = by (is_contradiction g) refl
    where
      all : All IsWritten (s.lines ++ l ∷ [])
      all = All-append IsWritten s.lines (l ∷ []) k.sound.written (All-cons IsWritten l [] w (All-nil IsWritten))

      size : length (s.lines ++ l ∷ []) ≡ suc (length s.lines)
      size = let m = length-append s.lines (l ∷ []) in omega arith

      next : (b : Bool) (more : List Step) → is_contradiction g ≡ b
          → derived n 0 false own ((s.lines ++ l ∷ []) ++ more)
          ≡ derived n (suc (length s.lines)) b (s.rows ++ g ∷ []) more
      next b more is =
          ap (λ (ls : List Step). derived n 0 false own ls) (append_assoc s.lines (l ∷ []) more)
          ∙ (k.sound.derives (l ∷ more)
          ∙ (derived_next n (length s.lines) s.rows l g more e
          ∙ ap (λ (c : Bool). derived n (suc (length s.lines)) c (s.rows ++ g ∷ []) more) is))

      by : (b : Bool) → is_contradiction g ≡ b → AllOf (Keeps first) SoundEnd (
          if b then ended (s.lines ++ l ∷ []) else goes (record {
            rows = s.rows ++ g ∷ [];
            lines = s.lines ++ l ∷ [];
            going = s.going ++ length s.rows ∷ [];
          })
          )
      by true is = record {
        derives = k.sound.derives (l ∷ [])
            ∙ (derived_next n (length s.lines) s.rows l g [] e
            ∙ ap (λ (c : Bool). derived n (suc (length s.lines)) c (s.rows ++ g ∷ []) []) is);
        written = all;
      }
      by false is = record {
        sound = record {
          derives = λ more. next false more is
              ∙ ap (λ (j : ℕ). derived n j false (s.rows ++ g ∷ []) more) (sym size);
          written = all;
        };
        sizes = λ v p h. size_kept v s.rows (g ∷ []) p (k.sizes v p h);
      }

  at_least : (m : ℕ) → 1 ≤ at_least_one m
  at_least zero = omega arith
  at_least (suc m) = omega arith

  sum_all : (first s : State) (terms : List Term) (r : Result Affine Fault) → Keeps first s → AreTerms terms
      → AllOf (Keeps first) SoundEnd (with_sum n s terms r)
  sum_all first s terms (Err f) k w = tt
  sum_all first s terms (Ok f) k w = by (is_held (divisor_of f)) refl
    where
      by : (b : Bool) → is_held (divisor_of f) ≡ b → AllOf (Keeps first) SoundEnd (
          if b then with_row s (line_of (pos (divisor_of f)) terms)
          (row_said n s.rows (line_of (pos (divisor_of f)) terms))
          else passed
          )
      by true held = row_all first s (line_of (pos (divisor_of f)) terms)
          (row_said n s.rows (line_of (pos (divisor_of f)) terms)) k (record {
            divisor = record {
              size = divisor_of f;
              is = refl;
              positive = at_least (content f.coefficients);
              held = held;
            };
            factors = w.factors;
            rows = w.rows;
            some = w.some;
          }) refl
      by false other = tt

  terms_all : (first s : State) (terms : List Term) → Keeps first s → AreTerms terms
      → AllOf (Keeps first) SoundEnd (with_terms n s terms)
  terms_all first s terms k w = sum_all first s terms (sum_said n terms (named s.rows terms)) k w

  one_is : IsWrittenNumber (pos 1)
  one_is = record { size = 1; is = refl; positive = omega arith; held = refl }

  abbrev IsFactor : Term → Type 0
  IsFactor t = IsWrittenNumber t.factor

  abbrev IsRow : Term → Type 0
  IsRow t = 1 ≤ t.row

  once : (at : ℕ) → AreTerms (times at 1 ∷ [])
  once at = record {
    factors = All-cons IsFactor (times at 1) [] one_is (All-nil IsFactor);
    rows = All-cons IsRow (times at 1) [] (omega arith) (All-nil IsRow);
    some = λ e. absurd cc;
  }

  twice : (p q i j : ℕ) → IsWrittenNumber (pos i) → IsWrittenNumber (pos j) → AreTerms (times p i ∷ times q j ∷ [])
  twice p q i j a b = record {
    factors = All-cons IsFactor (times p i) (times q j ∷ []) a
        (All-cons IsFactor (times q j) [] b (All-nil IsFactor));
    rows = All-cons IsRow (times p i) (times q j ∷ []) (omega arith)
        (All-cons IsRow (times q j) [] (omega arith) (All-nil IsRow));
    some = λ e. absurd cc;
  }

  itself : (s : State) → Sound s → Keeps s s
  itself s h = record { sound = h; sizes = λ v p k. k }

  abbrev IsSound : Outcome → Type 0
  IsSound o = AllOf Sound SoundEnd o

  alone_all : (s : State) (at : ℕ) → Sound s → IsSound (with_terms n s (times at 1 ∷ []))
  alone_all s at h =
      all_as (Keeps s) Sound SoundEnd (with_terms n s (times at 1 ∷ []))
      (terms_all s s (times at 1 ∷ []) (itself s h) (once at)) (λ t k. k.sound)

  divided_all : (at : ℕ) (fs : List Affine) (s : State) → Sound s → IsSound (divided_from n at fs s)
  divided_all at [] s h = h
  divided_all at (f ∷ fs) s h =
      by (nat_le (content f.coefficients) 1) (λ t k. divided_all (suc at) fs t k)
    where
      by : (b : Bool) → ((t : State) → Sound t → IsSound (divided_from n (suc at) fs t)) → IsSound (
          if b then divided_from n (suc at) fs (record s { going = s.going ++ at ∷ [] })
          else and_then (with_terms n s (times at 1 ∷ [])) (divided_from n (suc at) fs)
          )
      by true rest = rest (record s { going = s.going ++ at ∷ [] })
          (record { derives = h.derives; written = h.written })
      by false rest =
          then_all Sound Sound SoundEnd (with_terms n s (times at 1 ∷ [])) (divided_from n (suc at) fs)
          (alone_all s at h) rest

  paired_all : (p q a b : ℕ) (first s : State) → Keeps first s → 1 ≤ a → 1 ≤ b
      → AllOf (Keeps first) SoundEnd (paired n p q a s b)
  paired_all p q a b first s k one two =
      by (is_held (b / gcd_of a b)) (is_held (a / gcd_of a b)) refl refl
    where
      shares : (1 ≤ a / gcd_of a b) × (1 ≤ b / gcd_of a b)
      shares = share_positive a b one two

      by : (x y : Bool) → is_held (b / gcd_of a b) ≡ x → is_held (a / gcd_of a b) ≡ y
          → AllOf (Keeps first) SoundEnd (
          if x && y then with_terms n s (times p (b / gcd_of a b) ∷ times q (a / gcd_of a b) ∷ []) else passed
          )
      by true true f g = terms_all first s (times p (b / gcd_of a b) ∷ times q (a / gcd_of a b) ∷ []) k
          (twice p q (b / gcd_of a b) (a / gcd_of a b)
          (record { size = b / gcd_of a b; is = refl; positive = shares.1; held = f })
          (record { size = a / gcd_of a b; is = refl; positive = shares.0; held = g }))
      by true false f g = tt
      by false y f g = tt

  with_all : (v p : ℕ) (qs : List ℕ) (first s : State) → Keeps first s → 1 ≤ size_at v first.rows p
      → All (λ q. 1 ≤ size_at v first.rows q) qs → AllOf (Keeps first) SoundEnd (pairs_with n v p qs s)
  with_all v p [] first s k one all = k
  with_all v p (q ∷ qs) first s k one all =
      then_all (Keeps first) (Keeps first) SoundEnd (pair n v p q s) (pairs_with n v p qs)
      (paired_all p q (size_at v s.rows p) (size_at v s.rows q) first s k (k.sizes v p one)
      (k.sizes v q (All-head (λ q. 1 ≤ size_at v first.rows q) q qs all)))
      (λ t m. with_all v p qs first t m one (All-tail (λ q. 1 ≤ size_at v first.rows q) q qs all))

  pairs_all : (v : ℕ) (ps qs : List ℕ) (first s : State) → Keeps first s
      → All (λ q. 1 ≤ size_at v first.rows q) ps → All (λ q. 1 ≤ size_at v first.rows q) qs
      → AllOf (Keeps first) SoundEnd (pairs n v ps qs s)
  pairs_all v [] qs first s k ones all = k
  pairs_all v (p ∷ ps) qs first s k ones all =
      then_all (Keeps first) (Keeps first) SoundEnd (pairs_with n v p qs s) (pairs n v ps qs)
      (with_all v p qs first s k (All-head (λ q. 1 ≤ size_at v first.rows q) p ps ones) all)
      (λ t m. pairs_all v ps qs first t m (All-tail (λ q. 1 ≤ size_at v first.rows q) p ps ones) all)

  chosen_all : (test : ℤ → Bool) (v : ℕ) (rows : List Affine) (ps : List ℕ)
      → ((z : ℤ) → test z ≡ true → 1 ≤ unsigned_abs z)
      → All (λ q. 1 ≤ size_at v rows q) (chosen test v rows ps)
  chosen_all test v rows [] some = All-nil (λ q. 1 ≤ size_at v rows q)
  chosen_all test v rows (p ∷ ps) some =
      by (test (coefficient_of v (row_of rows p))) refl (chosen_all test v rows ps some)
    where
      by : (b : Bool) → test (coefficient_of v (row_of rows p)) ≡ b
          → All (λ q. 1 ≤ size_at v rows q) (chosen test v rows ps)
          → All (λ q. 1 ≤ size_at v rows q) (if b then p ∷ chosen test v rows ps else chosen test v rows ps)
      by true is rest =
          All-cons (λ q. 1 ≤ size_at v rows q) p (chosen test v rows ps) (some (coefficient_of v (row_of rows p)) is)
          rest
      by false is rest = rest

  positive_some : (z : ℤ) → is_positive z ≡ true → 1 ≤ unsigned_abs z
  positive_some (pos zero) h = absurd cc
  positive_some (pos (suc m)) h = omega arith
  positive_some (negsuc m) h = absurd cc

  negative_some : (z : ℤ) → is_negative z ≡ true → 1 ≤ unsigned_abs z
  negative_some (pos m) h = absurd cc
  negative_some (negsuc m) h = omega arith

  by_all : (v : ℕ) (places : List ℕ) (s : State) → Sound s → IsSound (eliminated_by n v places s)
  by_all v places s h =
      by (nat_lt 4096
      (length (chosen is_positive v s.rows places) * length (chosen is_negative v s.rows places)))
    where
      by : (b : Bool) → IsSound (
          if b then passed
          else pairs n v (chosen is_positive v s.rows places) (chosen is_negative v s.rows places)
          (going_on s (chosen is_zero v s.rows places))
          )
      by true = tt
      by false =
          let t = going_on s (chosen is_zero v s.rows places) in
          all_as (Keeps t) Sound SoundEnd
          (pairs n v (chosen is_positive v s.rows places) (chosen is_negative v s.rows places) t)
          (pairs_all v (chosen is_positive v s.rows places) (chosen is_negative v s.rows places) t t
          (itself t (record { derives = h.derives; written = h.written }))
          (chosen_all is_positive v s.rows places positive_some)
          (chosen_all is_negative v s.rows places negative_some)) (λ u k. k.sound)

  eliminated_all : (v k : ℕ) (s : State) → Sound s → IsSound (all_eliminated n v k s)
  eliminated_all v zero s h = h
  eliminated_all v (suc k) s h =
      then_all Sound Sound SoundEnd (eliminated n v s) (all_eliminated n (suc v) k)
      (by_all v (with_places s.rows [] s.going) s h) (λ t m. eliminated_all (suc v) k t m)

  begun : Sound (start own)
  begun = record { derives = λ more. refl; written = All-nil IsWritten }

  run_all : (found : Option ℕ) → IsSound (run_by n own found)
  run_all (Some at) = alone_all (start own) at begun
  run_all None =
      then_all Sound Sound SoundEnd (divided_from n 0 own (start own)) (all_eliminated n 0 n)
      (divided_all 0 own (start own) begun) (λ s h. eliminated_all 0 n s h)

  lines_are : (o : Outcome) (steps : List Step) → IsSound o → lines_of (length own) o ≡ Some steps
      → (lines : List Step) × SoundEnd lines × (needed_lines (length own) lines ≡ steps)
  lines_are (goes s) steps h e = absurd cc
  lines_are (ended lines) steps h e = (lines, h, cc)
  lines_are passed steps h e = absurd cc

  pub derivation_is : (steps : List Step) → derivation n own ≡ Some steps
      → (lines : List Step) × SoundEnd lines × (needed_lines (length own) lines ≡ steps)
  unfolding derivation
  derivation_is steps e = lines_are (run n own) steps (run_all (contradiction_in 0 own)) e

pub accepted : (n : ℕ) (rows : List Affine) (steps : List Step) → derivation n rows ≡ Some steps
    → derived n 0 false rows steps ≡ Ok true
accepted n rows steps e =
    let d = derivation_is n rows steps e in
    subst (λ (ls : List Step). derived n 0 false rows ls ≡ Ok true) d.2
    (needless_left_out n rows (needed (suc (length rows)) d.0) d.0 d.1.derives
    (needed_closed n rows d.0 d.1.derives))

-- terms with new numbers of rows
abbrev renamed : (ℕ → ℕ) → List Term → List Term
renamed at ts = map (λ t. record { row = at t.row; factor = t.factor }) ts

-- a line with new numbers of rows can be written
terms_written : (at : ℕ → ℕ) (s : Step) → ((k : ℕ) → 1 ≤ k → 1 ≤ at k) → IsWritten s → IsWritten (renumbered at s)
terms_written at s up w = record {
  divisor = w.divisor;
  factors = factors s.terms w.factors;
  rows = rows s.terms w.rows;
  some = some s.terms w.some;
}
  where
    factors : (ts : List Term) → All (λ (t : Term). IsWrittenNumber t.factor) ts
        → All (λ (t : Term). IsWrittenNumber t.factor) (renamed at ts)
    factors [] all = All-nil (λ (t : Term). IsWrittenNumber t.factor)
    factors (t ∷ ts) all =
        All-cons (λ (t : Term). IsWrittenNumber t.factor) (record { row = at t.row; factor = t.factor })
        (renamed at ts)
        (All-head (λ (t : Term). IsWrittenNumber t.factor) t ts all)
        (factors ts (All-tail (λ (t : Term). IsWrittenNumber t.factor) t ts all))

    rows : (ts : List Term) → All (λ (t : Term). 1 ≤ t.row) ts
        → All (λ (t : Term). 1 ≤ t.row) (renamed at ts)
    rows [] all = All-nil (λ (t : Term). 1 ≤ t.row)
    rows (t ∷ ts) all =
        All-cons (λ (t : Term). 1 ≤ t.row) (record { row = at t.row; factor = t.factor })
        (renamed at ts)
        (up t.row (All-head (λ (t : Term). 1 ≤ t.row) t ts all))
        (rows ts (All-tail (λ (t : Term). 1 ≤ t.row) t ts all))

    some : (ts : List Term) → ts ≢ [] → renamed at ts ≢ []
    some [] none = absurd (none refl)
    some (t ∷ ts) none = λ e. absurd cc

pruned_written : (old new : ℕ) (at : ℕ → ℕ) (marks : List Bool) (steps : List Step)
    → ((k : ℕ) → 1 ≤ k → 1 ≤ at k) → All IsWritten steps → All IsWritten (pruned old new at marks steps)
pruned_written old new at [] steps up all = All-nil IsWritten
pruned_written old new at (m ∷ marks) [] up all = All-nil IsWritten
pruned_written old new at (true ∷ marks) (s ∷ steps) up all =
    All-cons IsWritten (renumbered at s) (pruned (suc old) (suc new) (moved at (suc old) (suc new)) marks steps)
    (terms_written at s up (All-head IsWritten s steps all))
    (pruned_written (suc old) (suc new) (moved at (suc old) (suc new)) marks steps
    (λ k h. by (nat_eq k (suc old)) (up k h)) (All-tail IsWritten s steps all))
  where
    by : {j : ℕ} (b : Bool) → 1 ≤ j → 1 ≤ (if b then suc new else j)
    by true h = omega arith
    by false h = h
pruned_written old new at (false ∷ marks) (s ∷ steps) up all =
    pruned_written (suc old) new at marks steps up (All-tail IsWritten s steps all)

pub lines_written : (n : ℕ) (rows : List Affine) (steps : List Step) → derivation n rows ≡ Some steps
    → All IsWritten steps
lines_written n rows steps e =
    let d = derivation_is n rows steps e in
    subst (All IsWritten) d.2
    (pruned_written (length rows) (length rows) (λ k. k) (needed (suc (length rows)) d.0) d.0 (λ k h. h) d.1.written)
