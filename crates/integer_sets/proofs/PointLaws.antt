-- What a run of tests and an intersection say of the points.
use Rattle.std.proofs.Common.{◌≡◌, suc, Bool, true, false, ℤ, pos, negsuc, ◌≤ℤ◌, List, [], ◌∷◌, ◌++◌, length, refl, sym}
use Rattle.std.proofs.Common.{ap, ◌∙◌, subst, arith, All, ◌↔◌, Result, Ok, Err, IsTrue, IfOk, if◌then◌else◌}
use Rattle.std.proofs.lemmas.Int.{ints}
use Rattle.std.proofs.lemmas.Bool.{false≢true}
use Rattle.std.proofs.lemmas.Bool.Decides.{nat_tests}
use Rattle.std.proofs.Math.Seq.{take-append_seam, drop-append_seam}
use Rattle.std.proofs.lemmas.List.Elements.{All-append, All-cons, All-nil, All-take, All-drop}
use Rattle.affine_forms.specs.Affine.{Affine, value_of}
use Rattle.affine_forms.specs.Wide.{Wide}
use Rattle.affine_forms.proofs.CheckedSteps.{chain-ok}
use Rattle.affine_forms.specs.Runs.{value_run}
use Rattle.affine_forms.proofs.Exact.{value_run-exact}
use Rattle.integer_sets.specs.Constraints.{Constraints, intersection}
use Rattle.integer_sets.specs.Points.{Satisfies}
use Rattle.integer_sets.specs.Runs.{is_zero, is_not_negative, each_run, holds_run}

-- the tests of one value
is_zero-true : (z : ℤ) → is_zero z ≡ true → z ≡ pos 0
is_zero-true (pos n) h = let e : n ≡ 0 = grind (arith, nat_tests) in ap pos e
is_zero-true (negsuc n) h = absurd (false≢true h)

pub is_zero-from : (z : ℤ) → z ≡ pos 0 → is_zero z ≡ true
is_zero-from z h = rw h refl

is_not_negative-true : (z : ℤ) → is_not_negative z ≡ true → pos 0 ≤ℤ z
is_not_negative-true (pos n) h = omega (arith, ints)
is_not_negative-true (negsuc n) h = absurd (false≢true h)

pub is_not_negative-from : (z : ℤ) → pos 0 ≤ℤ z → is_not_negative z ≡ true
is_not_negative-from (pos n) h = refl
is_not_negative-from (negsuc n) h = absurd (omega (arith, ints))

-- the form's value passes the test
abbrev Passes : (ℤ → Bool) → List ℤ → Affine → Type 0
Passes test point f = test (value_of f point) ≡ true

-- what one form's test leaves of the run
tested : (test : ℤ → Bool) (f : Affine) (fs : List Affine) (point : List ℤ) (answer : Bool)
    → each_run test (f ∷ fs) point ≡ Ok answer
    → (if test (value_of f point) then each_run test fs point else Ok false) ≡ Ok answer
tested test f fs point answer h =
    let next : ℤ → Result Bool Wide = λ v. if test v then each_run test fs point else Ok false in
    let c = chain-ok (value_run f point) next answer h in
    subst (λ (v : ℤ). next v ≡ Ok answer) (value_run-exact f point c.0 c.1) c.2

-- a test and then the rest answer `true` where both do
both_true : (b : Bool) (rest : Result Bool Wide) → (if b then rest else Ok false) ≡ Ok true
    → (b ≡ true) × (rest ≡ Ok true)
both_true true rest h = (refl, h)
both_true false rest h = (cc, cc)

-- where they answer `false` and the test does not, the rest does
rest_false : (b : Bool) (rest : Result Bool Wide) → (if b then rest else Ok false) ≡ Ok false
    → b ≡ true → rest ≡ Ok false
rest_false true rest h e = h
rest_false false rest h e = cc

-- a run that answers `true` has found that each form passes
each_run-true : (test : ℤ → Bool) (fs : List Affine) (point : List ℤ)
    → each_run test fs point ≡ Ok true → All (Passes test point) fs
each_run-true test [] point h = All-nil (Passes test point)
each_run-true test (f ∷ fs) point h =
    let both = both_true _ (each_run test fs point) (tested test f fs point true h) in
    All-cons (Passes test point) f fs both.0 (each_run-true test fs point both.1)

-- a run that answers `false` has found one that does not
each_run-false : (test : ℤ → Bool) (fs : List Affine) (point : List ℤ)
    → each_run test fs point ≡ Ok false → All (Passes test point) fs → ⊥
each_run-false test [] point h all = let e : true ≡ false = cc in false≢true (sym e)
each_run-false test (f ∷ fs) point h all =
    let first : test (value_of f point) ≡ true = all 0 f (omega arith) in
    let rest = rest_false _ (each_run test fs point) (tested test f fs point false h) first in
    each_run-false test fs point rest (λ k d inside. all (suc k) d (omega arith))

-- each equality is 0 and each row at least 0, in the words of the tests
abbrev PassesBoth : Constraints → List ℤ → Type 0
PassesBoth s point =
    All (Passes is_zero point) s.equalities × All (Passes is_not_negative point) s.rows

satisfied : (s : Constraints) (point : List ℤ) → PassesBoth s point → Satisfies s point
satisfied s point h = (
  λ k d inside. is_zero-true _ (h.0 k d inside),
  λ k d inside. is_not_negative-true _ (h.1 k d inside),
)

passed : (s : Constraints) (point : List ℤ) → Satisfies s point → PassesBoth s point
passed s point h = (
  λ k d inside. is_zero-from _ (h.0 k d inside),
  λ k d inside. is_not_negative-from _ (h.1 k d inside),
)

-- where the equalities hold, the rows decide
rows_law : (s : Constraints) (point : List ℤ) (answer : Bool)
    → each_run is_zero s.equalities point ≡ Ok true
    → each_run is_not_negative s.rows point ≡ Ok answer → IsTrue answer ↔ Satisfies s point
rows_law s point true equal rows =
    let zero = each_run-true is_zero s.equalities point equal in
    let least = each_run-true is_not_negative s.rows point rows in
    (λ _. satisfied s point (zero, least), λ _. refl)
rows_law s point false equal rows =
    let fails = each_run-false is_not_negative s.rows point rows in
    (λ yes. absurd (false≢true yes), λ all. absurd (fails (passed s point all).1))

-- the equalities decide, or leave it to the rows
equalities_law : (s : Constraints) (point : List ℤ) (equal answer : Bool)
    → each_run is_zero s.equalities point ≡ Ok equal
    → (if equal then each_run is_not_negative s.rows point else Ok false) ≡ Ok answer
    → IsTrue answer ↔ Satisfies s point
equalities_law s point true answer equal rest = rows_law s point answer equal rest
equalities_law s point false answer equal rest =
    let no : answer ≡ false = cc in
    let fails = each_run-false is_zero s.equalities point equal in
    (λ yes. absurd (false≢true (sym no ∙ yes)), λ all. absurd (fails (passed s point all).0))

-- whether the run's answer is `true` says whether the point satisfies the system
pub holds_run-law : (s : Constraints) (point : List ℤ) (holds : Bool) → holds_run s point ≡ Ok holds
    → IsTrue holds ↔ Satisfies s point
holds_run-law s point holds h =
    let rest = each_run is_not_negative s.rows point in
    let next : Bool → Result Bool Wide = λ equal. if equal then rest else Ok false in
    let c = chain-ok (each_run is_zero s.equalities point) next holds h in
    equalities_law s point c.0 holds c.1 c.2

-- the same of a call that gives what the run gives
pub holds_at-law : (s : Constraints) (point : List ℤ) (result : Result Bool Wide)
    → result ≡ holds_run s point → IfOk result (λ holds. IsTrue holds ↔ Satisfies s point)
holds_at-law s point (Ok holds) e = holds_run-law s point holds (sym e)
holds_at-law s point (Err w) e = tt

-- each of a joined list is each of both lists
All-append_iff : {X : Type 0} (P : X → Type 0) (xs ys : List X)
    → All P (xs ++ ys) ↔ (All P xs × All P ys)
All-append_iff P xs ys = (parted, λ h. All-append P xs ys h.0 h.1)
  where
    parted : All P (xs ++ ys) → All P xs × All P ys
    parted h = (
      rw (take-append_seam xs ys) at (All-take P (length xs) (xs ++ ys) h),
      rw (drop-append_seam xs ys) at (All-drop P (length xs) (xs ++ ys) h),
    )

-- a point satisfies an intersection just where it satisfies both
pub Satisfies-intersection : (s t : Constraints) (point : List ℤ)
    → Satisfies (intersection s t) point ↔ (Satisfies s point × Satisfies t point)
Satisfies-intersection s t point =
    let zero : Affine → Type 0 = λ f. value_of f point ≡ pos 0 in
    let equal = All-append_iff zero s.equalities t.equalities in
    let least = All-append_iff (λ (f : Affine). pos 0 ≤ℤ value_of f point) s.rows t.rows in (
      λ h. (((equal.0 h.0).0, (least.0 h.1).0), ((equal.0 h.0).1, (least.0 h.1).1)),
      λ h. (equal.1 (h.0.0, h.1.0), least.1 (h.0.1, h.1.1)),
    )

-- the same of a system that is the intersection
pub intersection-points : (s t both : Constraints) → both ≡ intersection s t → (point : List ℤ)
    → Satisfies both point ↔ (Satisfies s point × Satisfies t point)
intersection-points s t both e point = rw e (Satisfies-intersection s t point)
