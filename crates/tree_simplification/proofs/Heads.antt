-- Bounds, tests and numbers, one by one.
use Rattle.tree_simplification.proofs.Common.{◌≡◌, ℕ, zero, suc, ◌+◌, ◌^◌, ◌<◌, ◌≤◌, Bool, true, false, ℤ, pos, List}
use Rattle.tree_simplification.proofs.Common.{[], ◌∷◌, ◌++◌, length, map, take, get_or, ap, subst, sym, ◌∙◌, refl}
use Rattle.tree_simplification.proofs.Common.{arith, inl, inr, All, not, ◌*ℤ◌, ◌≤ℤ◌, unsigned_abs, if◌then◌else◌, le_z}
use Rattle.tree_simplification.proofs.Common.{ints, map-append, All-nil, All-cons, All-head, All-tail, All-push, Affine}
use Rattle.tree_simplification.proofs.Common.{composed, value_of, multiples, length-multiples, floor, AreAtMost}
use Rattle.tree_simplification.proofs.Common.{le_z_holds, append_assoc, length-composed, form_in, AreTests, IsTest}
use Rattle.tree_simplification.proofs.Common.{BoundsAreOver, BoundsAreUpTo, IsOver, IsOverUpTo, TestIsUpTo, Bound}
use Rattle.tree_simplification.proofs.Common.{Bounds, besides, bounds_of, at_least, equal, multiple, test_of, all_hold}
use Rattle.tree_simplification.proofs.Common.{holds, dot_zeros, sign_of, AreTestsFor, AreTestsOf, bound_over}
use Rattle.tree_simplification.proofs.Common.{bounds_over, side_form, side_tests, test_over}
use Rattle.scop_syntax.proofs.Common.{length-sums}
use Rattle.std.proofs.lemmas.List.{map_more}
use Rattle.loop_tree.specs.Fits.{AreZeros}
use Rattle.loop_tree.specs.Tree.{Test}
use Rattle.loop_tree.specs.declared.tree.Test.{Test as CodeTest}
use Rattle.tree_simplification.specs.steps.Inlined.{AreWith}
use Rattle.tree_simplification.specs.steps.Rounded.{rounded_test}
use Rattle.tree_simplification.proofs.Rounding.{test_flat as rounded_test_flat, test_sized as rounded_test_sized}

at_most_next : (k : ℕ) (xs : List ℤ) (i : ℕ) (d : ℤ) → i < length xs → AreAtMost k (take i xs)
    → unsigned_abs (get_or xs i d) ≤ k → AreAtMost k (take (suc i) xs)
at_most_next k [] i d inside h x = absurd (omega arith)
at_most_next k (y ∷ xs) zero d inside h x = (x, tt)
at_most_next k (y ∷ xs) (suc i) d inside h x = (h.0, at_most_next k xs i d (omega arith) h.1 x)

pub at_most_more : (k : ℕ) (xs : List ℤ) (i : ℕ) (d : ℤ) → i < length xs → AreAtMost k (take i xs)
    → unsigned_abs (get_or xs i d) ≤ k → AreAtMost k (take (i + 1) xs)
at_most_more k xs i d inside h x =
    let e : suc i ≡ i + 1 = omega arith in
    subst (λ (j : ℕ). AreAtMost k (take j xs)) e (at_most_next k xs i d inside h x)

pub zeros_all : (xs : List ℤ) → All (λ (x : ℤ). x ≡ pos 0) xs → AreZeros xs
zeros_all [] each = tt
zeros_all (x ∷ xs) each = (each 0 x (omega arith), zeros_all xs (λ k d inside. each (suc k) d (omega (arith, inside))))

-- a form without coefficients is its constant
pub number_holds : (f : Affine) → AreZeros f.coefficients → pos 0 ≤ℤ f.constant → (point : List ℤ)
    → holds (at_least f) point ≡ true
number_holds f zeros up point =
    let d = dot_zeros f.coefficients point zeros in
    le_z_holds (pos 0) (value_of f point) (omega (arith, ints))

pub zero_holds : (f : Affine) → AreZeros f.coefficients → f.constant ≡ pos 0 → (point : List ℤ)
    → holds (equal f) point ≡ true
zero_holds f zeros is point =
    let d = dot_zeros f.coefficients point zeros in
    let v : value_of f point ≡ pos 0 = omega (arith, ints) in
    ap (λ (z : ℤ). if le_z (pos 0) z then le_z z (pos 0) else false) v

pub multiple_holds : (f : Affine) (d : ℤ) → AreZeros f.coefficients
    → le_z f.constant (floor f.constant d *ℤ d) ≡ true → (point : List ℤ) → holds (multiple f d) point ≡ true
multiple_holds f d zeros is point =
    let e = dot_zeros f.coefficients point zeros in
    let v : value_of f point ≡ f.constant = omega (arith, ints) in
    ap (λ (z : ℤ). le_z z (floor z d *ℤ d)) v ∙ is

-- bounds as a first one and others
pub bounds_of_over : (up : Bool) (n : ℕ) (forms : List Affine) (b : Bound) (bs : List Bound)
    → bounds_of (bound_over up n forms b) (map (bound_over up n forms) bs) ≡ bounds_over up n forms (bounds_of b bs)
bounds_of_over up n forms b [] = refl
bounds_of_over up n forms b (c ∷ bs) =
    ap (λ (cs : Bounds). besides (bound_over up n forms b) cs) (bounds_of_over up n forms c bs)

pub over_parts : (n : ℕ) (b : Bound) (bs : List Bound) → BoundsAreOver n (bounds_of b bs)
    → IsOver n b.form × All (λ c. IsOver n c.form) bs
over_parts n b [] h = (h, All-nil (λ (c : Bound). IsOver n c.form))
over_parts n b (c ∷ bs) h =
    let r = over_parts n c bs h.1 in (h.0, All-cons (λ (c : Bound). IsOver n c.form) c bs r.0 r.1)

pub divisor_parts : (n : ℕ) (b : Bound) (bs : List Bound) → BoundsAreUpTo n (bounds_of b bs)
    → (unsigned_abs b.divisor ≤ n) × All (λ c. unsigned_abs c.divisor ≤ n) bs
divisor_parts n b [] h = (h.1, All-nil (λ (c : Bound). unsigned_abs c.divisor ≤ n))
divisor_parts n b (c ∷ bs) h =
    let r = divisor_parts n c bs h.1 in
    (h.0.1, All-cons (λ (c : Bound). unsigned_abs c.divisor ≤ n) c bs r.0 r.1)

pub up_to_from : (n : ℕ) (b : Bound) (bs : List Bound) → IsOverUpTo n b.form b.divisor
    → All (λ c. IsOverUpTo n c.form c.divisor) bs → BoundsAreUpTo n (bounds_of b bs)
up_to_from n b [] h all = h
up_to_from n b (c ∷ bs) h all =
    let P : Bound → Type 0 = λ c. IsOverUpTo n c.form c.divisor in
    (h, up_to_from n c bs (All-head P c bs all) (All-tail P c bs all))

-- tests, one more
pub all_hold_append : (xs ys : List Test) (point : List ℤ)
    → all_hold (xs ++ ys) point ≡ (if all_hold xs point then all_hold ys point else false)
all_hold_append [] ys point = refl
all_hold_append (x ∷ xs) ys point = first (holds x point) (all_hold_append xs ys point)
  where
    first : (b : Bool) → all_hold (xs ++ ys) point ≡ (if all_hold xs point then all_hold ys point else false)
        → (if b then all_hold (xs ++ ys) point else false)
        ≡ (if (if b then all_hold xs point else false) then all_hold ys point else false)
    first true e = e
    first false e = refl

tests_front : (xs : List Test) (t : Test) → AreTests (xs ++ t ∷ []) → AreTests xs × IsTest t
tests_front [] t h = (tt, h.0)
tests_front (x ∷ xs) t h = let r = tests_front xs t h.1 in ((h.0, r.0), r.1)

tests_push : (xs : List Test) (t : Test) → AreTests xs → IsTest t → AreTests (xs ++ t ∷ [])
tests_push [] t h k = (k, tt)
tests_push (x ∷ xs) t h k = (h.0, tests_push xs t h.1 k)

-- none
pub no_tests : (n : ℕ) → AreTestsOf n [] []
no_tests n =
    record {
      same = λ point. refl;
      over = All-nil (λ (test : Test). IsOver n (form_in test));
      small = All-nil (TestIsUpTo (2 ^ 45));
      flat = λ h. tt;
    }

-- a test that stays
test_kept : (n : ℕ) (old new : List Test) (t : Test) → AreTestsOf n old new → IsOver n (form_in t)
    → TestIsUpTo (2 ^ 45) t → AreTestsOf n (old ++ t ∷ []) (new ++ t ∷ [])
test_kept n old new t are over small =
    record {
      same = λ point.
          all_hold_append new (t ∷ []) point
          ∙ (ap (λ (b : Bool). if b then all_hold (t ∷ []) point else false) (are.same point)
          ∙ sym (all_hold_append old (t ∷ []) point));
      over = All-push (λ (test : Test). IsOver n (form_in test)) new t are.over over;
      small = All-push (TestIsUpTo (2 ^ 45)) new t are.small small;
      flat = λ h. let f = tests_front old t h in tests_push new t (are.flat f.0) f.1;
    }

-- a test that goes, since it holds everywhere
test_gone : (n : ℕ) (old new : List Test) (t : Test) → AreTestsOf n old new
    → ((point : List ℤ) → holds t point ≡ true) → AreTestsOf n (old ++ t ∷ []) new
test_gone n old new t are always =
    record {
      same = λ point.
          let last : all_hold (t ∷ []) point ≡ true = ap (λ (c : Bool). if c then true else false) (always point) in
          are.same point
          ∙ (sym (stays (all_hold old point) (all_hold (t ∷ []) point) last)
          ∙ sym (all_hold_append old (t ∷ []) point));
      over = are.over;
      small = are.small;
      flat = λ h. are.flat (tests_front old t h).0;
    }
  where
    stays : (b c : Bool) → c ≡ true → (if b then c else false) ≡ b
    stays true c h = h
    stays false c h = refl

-- one of the code that stays or goes
pub test_more : (n : ℕ) (old : List Test) (made : CodeTest) (all next : List CodeTest)
    → AreTestsOf n old (map test_of all) → IsOver n (form_in (test_of made)) → TestIsUpTo (2 ^ 45) (test_of made)
    → AreWith all made next → AreTestsOf n (old ++ test_of made ∷ []) (map test_of next)
test_more n old made all next are over small (inl pushed) =
    subst (AreTestsOf n (old ++ test_of made ∷ []))
    (sym (ap (λ (ts : List CodeTest). map test_of ts) pushed ∙ map-append test_of all (made ∷ [])))
    (test_kept n old (map test_of all) (test_of made) are over small)
test_more n old made all next are over small (inr stays) =
    subst (λ (ts : List CodeTest). AreTestsOf n (old ++ test_of made ∷ []) (map test_of ts)) (sym stays.0)
    (test_gone n old (map test_of all) (test_of made) are stays.1)

test_sized : (n : ℕ) (forms : List Affine) → All (IsOver n) forms → (t : Test)
    → IsOver n (form_in (test_over n forms t))
test_sized n forms sized (at_least f) =
    rounded_test_sized n (at_least (composed f forms n)) (length-composed n f forms sized)
test_sized n forms sized (equal f) =
    rounded_test_sized n (equal (composed f forms n)) (length-composed n f forms sized)
test_sized n forms sized (multiple f d) = length-composed n f forms sized

-- tests that the forms stand in keep their divisors
pub tests_flat : (n : ℕ) (forms : List Affine) (tests : List Test) → AreTests tests
    → AreTests (map (test_over n forms) tests)
tests_flat n forms [] h = tt
tests_flat n forms (at_least f ∷ tests) h =
    (rounded_test_flat (at_least (composed f forms n)) tt, tests_flat n forms tests h.1)
tests_flat n forms (equal f ∷ tests) h =
    (rounded_test_flat (equal (composed f forms n)) tt, tests_flat n forms tests h.1)
tests_flat n forms (multiple f d ∷ tests) h = (h.0, tests_flat n forms tests h.1)

-- what holds of the trees that a list's elements stand for holds of one of them
pub all_mapped : {A B : Type 0} (P : B → Type 0) (f : A → B) (xs : List A) (i : ℕ) (x : A) → x ≡ get_or xs i x
    → i < length xs → All P (map f xs) → P (f x)
all_mapped P f [] i x found inside all = absurd (omega arith)
all_mapped P f (y ∷ xs) zero x found inside all = subst (λ z. P (f z)) (sym found) (All-head P (f y) (map f xs) all)
all_mapped P f (y ∷ xs) (suc i) x found inside all =
    all_mapped P f xs i x found (omega arith) (All-tail P (f y) (map f xs) all)

-- one test of the code more
pub tests_next : (n : ℕ) (forms : List Affine) (tests : List CodeTest) (i : ℕ) (item made : CodeTest)
    → (all next : List CodeTest) → item ≡ get_or tests i item → i < length tests
    → AreTestsFor n forms (map test_of (take i tests)) (map test_of all) → All (IsOver n) forms
    → test_of made ≡ test_over n forms (test_of item) → TestIsUpTo (2 ^ 45) (test_of made) → AreWith all made next
    → AreTestsFor n forms (map test_of (take (i + 1) tests)) (map test_of next)
tests_next n forms tests i item made all next found inside are sized is small with =
    let old = map test_of (take i tests) in
    let taken : map test_of (take (i + 1) tests) ≡ old ++ test_of item ∷ [] =
    map_more test_of tests i item inside ∙ ap (λ (x : CodeTest). old ++ test_of x ∷ []) (sym found) in
    let mapped : map (test_over n forms) (map test_of (take (i + 1) tests))
    ≡ map (test_over n forms) old ++ test_of made ∷ [] =
    ap (λ (ts : List Test). map (test_over n forms) ts) taken
    ∙ (map-append (test_over n forms) old (test_of item ∷ [])
    ∙ ap (λ (t : Test). map (test_over n forms) old ++ t ∷ []) (sym is)) in
    subst (λ (ts : List Test). AreTestsOf n ts (map test_of next)) (sym mapped)
    (test_more n (map (test_over n forms) old) made all next are
    (subst (λ (t : Test). IsOver n (form_in t)) (sym is) (test_sized n forms sized (test_of item))) small with)

-- one side's test more
pub side_more : (n : ℕ) (turned : Bool) (f : Affine) (before : List Test) (bs : List Bound) (i : ℕ) (b : Bound)
    → (made : CodeTest) (all next : List CodeTest) → b ≡ get_or bs i b → i < length bs
    → AreTestsOf n (before ++ side_tests turned f (take i bs)) (map test_of all) → IsOver n f → IsOver n b.form
    → test_of made ≡ rounded_test (at_least (side_form turned f b)) → TestIsUpTo (2 ^ 45) (test_of made)
    → AreWith all made next
    → AreTestsOf n (before ++ side_tests turned f (take (i + 1) bs)) (map test_of next)
side_more n turned f before bs i b made all next found inside are own over is small with =
    let side : Bound → Test = λ a. rounded_test (at_least (side_form turned f a)) in
    let front = map side (take i bs) in
    let taken : map side (take (i + 1) bs) ≡ front ++ test_of made ∷ [] =
    map_more side bs i b inside ∙ (ap (λ (a : Bound). front ++ side a ∷ []) (sym found)
    ∙ ap (λ (t : Test). front ++ t ∷ []) (sym is)) in
    let all_is : before ++ map side (take (i + 1) bs) ≡ (before ++ front) ++ test_of made ∷ [] =
    ap (λ (ts : List Test). before ++ ts) taken ∙ sym (append_assoc before front (test_of made ∷ [])) in
    subst (λ (ts : List Test). AreTestsOf n ts (map test_of next)) (sym all_is)
    (test_more n (before ++ front) made all next are
    (subst (λ (t : Test). IsOver n (form_in t)) (sym is)
    (rounded_test_sized n (at_least (side_form turned f b)) (side_sized n turned f b own over))) small with)
  where
    side_sized : (n : ℕ) (turned : Bool) (f : Affine) (b : Bound) → IsOver n f → IsOver n b.form
        → IsOver n (side_form turned f b)
    side_sized n turned f b own over =
        let x = length-multiples (sign_of turned *ℤ pos 1) b.form.coefficients in
        let y = length-multiples (sign_of (not turned) *ℤ b.divisor) f.coefficients in
        length-sums (multiples (sign_of turned *ℤ pos 1) b.form.coefficients)
        (multiples (sign_of (not turned) *ℤ b.divisor) f.coefficients) (x ∙ over ∙ sym own ∙ sym y) ∙ x ∙ over
