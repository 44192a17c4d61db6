-- What a scanned tree is like: how many coefficients its forms have, how large its numbers are, whose its instances
-- are.
use Rattle.scop_syntax.proofs.Common.{◌≡◌, ℕ, zero, suc, ◌<◌, Bool, ℤ, pos, List, [], ◌∷◌, length}
use Rattle.scop_syntax.proofs.Common.{get_or, map, inl, inr, refl, ap, subst, ◌∙◌, All, arith, ◌≤◌, ◌^◌, neg_ℤ}
use Rattle.scop_syntax.proofs.Common.{unsigned_abs, All-cons, All-head, All-nil, All-tail, Affine, multiple_of_form}
use Rattle.scop_syntax.proofs.Common.{zeros, length-multiples, length-zeros, AreAtMost, IsForm, In}
use Rattle.std.proofs.Math.ListN.{length-set}
use Rattle.affine_forms.specs.Parts.{variables_of}
use Rattle.fractions.specs.Elimination.{coefficient_of, narrowed}
use Rattle.integer_sets.specs.Constraints.{variables_in}
use Rattle.integer_sets.specs.Scanned.{Scanned}
use Rattle.fm_projection.specs.Alone.{place_form}
use Rattle.fm_projection.proofs.RemovedEntries.{narrowed_sized}
use Rattle.loop_tree.specs.Tree.{Bound, Bounds, only, Test, at_least, equal, Tree, loop, guard}
use Rattle.loop_tree.specs.Tree.{instance, Trees, none, more}
use Rattle.loop_tree.specs.Fits.{IsSmall, form_in}
use Rattle.loop_tree.specs.Shape.{BoundsAreOver, BoundsAreUpTo, IsOver, IsUpTo, TestIsUpTo}
use Rattle.plain_scan.specs.declared.set_outline.Outline.{Outline}
use Rattle.plain_scan.specs.Scanning.{AreOfSets, IsOfSets}
use Rattle.plain_scan.specs.steps.Shape.{AreShaped}
use Rattle.plain_scan.specs.Sets.{equal_tests, leaves, place_forms, row_tests, tests_of, turn_forms, under}
use Rattle.plain_scan.specs.Rows.{high_bound, high_bounds, low_bound, low_bounds}
use Rattle.plain_scan.specs.Sorting.{lows_in, highs_in}
use Rattle.plain_scan.specs.Hulls.{AreHullRows, leaf_tree, own_leaf, sets_in}
use Rattle.plain_scan.specs.Between.{HasSmallNumbers}
use Rattle.plain_scan.proofs.SortedRows.{highs_of, lows_of}
use Rattle.plain_scan.proofs.Smallness.{is_small, narrowed_small, opposite_small, place_small, small_negative}

-- instances of some sets are of all in which those are
mutual
  of_more : (sets all : List Scanned) (t : Tree) → ((s : Scanned) → In s sets → In s all) → IsOfSets sets t
      → IsOfSets all t
  of_more sets all (loop flag lo up body) inside h = all_of_more sets all body inside h
  of_more sets all (guard tests body) inside h = all_of_more sets all body inside h
  of_more sets all (instance k forms) inside h = (h.0, inside h.0 h.1, h.2, h.3)

  pub all_of_more : (sets all : List Scanned) (ts : Trees) → ((s : Scanned) → In s sets → In s all)
      → AreOfSets sets ts → AreOfSets all ts
  all_of_more sets all none inside h = tt
  all_of_more sets all (more t ts) inside h = (of_more sets all t inside h.0, all_of_more sets all ts inside h.1)

-- a form over n variables of numbers within 2^40
abbrev pub IsRowOver : ℕ → Affine → Type 0
IsRowOver n f = IsForm n (2 ^ 40) (2 ^ 40) f

pub row_over : (n : ℕ) (f : Affine) → variables_of f ≡ n → HasSmallNumbers f → IsRowOver n f
row_over n f sized small =
    let h = is_small f small in record { entries = sized; coefficients = h.coefficients; constant = h.constant }

row_small : (n : ℕ) (f : Affine) → IsRowOver n f → IsSmall f
row_small n f h = record { entries = refl; coefficients = h.coefficients; constant = h.constant }

narrowed_over : (m n : ℕ) (f : Affine) → m < suc n → IsRowOver (suc n) f → IsRowOver n (narrowed m f)
narrowed_over m n f inside h =
    let P : ℕ → Affine → Type 0 = λ k g. variables_of g ≡ k in
    let small = narrowed_small m f (row_small (suc n) f h) in
    let one = All-cons (P (suc n)) f [] h.entries (All-nil (P (suc n))) in
    let all = narrowed_sized m n (f ∷ []) (narrowed m f ∷ []) one inside refl in record {
      entries = All-head (P n) (narrowed m f) [] all;
      coefficients = small.coefficients;
      constant = small.constant;
    }

opposite_over : (n : ℕ) (f : Affine) → IsRowOver n f → IsRowOver n (multiple_of_form (neg_ℤ (pos 1)) f)
opposite_over n f h =
    let small = opposite_small f (row_small n f h) in record {
      entries = length-multiples (neg_ℤ (pos 1)) f.coefficients ∙ h.entries;
      coefficients = small.coefficients;
      constant = small.constant;
    }

entry_small : (cs : List ℤ) (m : ℕ) → AreAtMost (2 ^ 40) cs → unsigned_abs (get_or cs m (pos 0)) ≤ 2 ^ 40
entry_small [] m h = omega arith
entry_small (c ∷ cs) zero h = h.0
entry_small (c ∷ cs) (suc m) h = entry_small cs m h.1

-- bounds of such rows: their numbers, and that each form has a coefficient less
abbrev AreBoundsOver : ℕ → Bounds → Type 0
AreBoundsOver n b = BoundsAreUpTo (2 ^ 40) b × BoundsAreOver n b

one_bound : (n : ℕ) (b : Bound) → IsRowOver n b.form → unsigned_abs b.divisor ≤ 2 ^ 40 → AreBoundsOver n (only b)
one_bound n b h d = (((h.coefficients, h.constant), d), h.entries)

low_over : (m n : ℕ) (f : Affine) → m < suc n → IsRowOver (suc n) f → AreBoundsOver n (only (low_bound m f))
low_over m n f inside h =
    one_bound n (low_bound m f) (opposite_over n (narrowed m f) (narrowed_over m n f inside h))
    (entry_small f.coefficients m h.coefficients)

high_over : (m n : ℕ) (f : Affine) → m < suc n → IsRowOver (suc n) f → AreBoundsOver n (only (high_bound m f))
high_over m n f inside h =
    one_bound n (high_bound m f) (narrowed_over m n f inside h)
    (small_negative (coefficient_of m f) (entry_small f.coefficients m h.coefficients))

lows_over : (m n : ℕ) (f : Affine) (fs : List Affine) → m < suc n → All (IsRowOver (suc n)) (f ∷ fs)
    → AreBoundsOver n (low_bounds m f fs)
lows_over m n f [] inside h = low_over m n f inside (All-head (IsRowOver (suc n)) f [] h)
lows_over m n f (g ∷ gs) inside h =
    let one = low_over m n f inside (All-head (IsRowOver (suc n)) f (g ∷ gs) h) in
    let rest = lows_over m n g gs inside (All-tail (IsRowOver (suc n)) f (g ∷ gs) h) in
    ((one.0, rest.0), (one.1, rest.1))

highs_over : (m n : ℕ) (f : Affine) (fs : List Affine) → m < suc n → All (IsRowOver (suc n)) (f ∷ fs)
    → AreBoundsOver n (high_bounds m f fs)
highs_over m n f [] inside h = high_over m n f inside (All-head (IsRowOver (suc n)) f [] h)
highs_over m n f (g ∷ gs) inside h =
    let one = high_over m n f inside (All-head (IsRowOver (suc n)) f (g ∷ gs) h) in
    let rest = highs_over m n g gs inside (All-tail (IsRowOver (suc n)) f (g ∷ gs) h) in
    ((one.0, rest.0), (one.1, rest.1))

-- leaves
tests_shaped : (n : ℕ) (fs gs : List Affine) → All (IsRowOver n) fs → All (IsRowOver n) gs
    → All (TestIsUpTo (2 ^ 40)) (equal_tests fs (row_tests gs))
    × All (λ q. IsOver n (form_in q)) (equal_tests fs (row_tests gs))
tests_shaped n [] [] eqs rows = (All-nil (TestIsUpTo (2 ^ 40)), All-nil (λ q. IsOver n (form_in q)))
tests_shaped n [] (g ∷ gs) eqs rows =
    let one = All-head (IsRowOver n) g gs rows in
    let rest = tests_shaped n [] gs eqs (All-tail (IsRowOver n) g gs rows) in (
      All-cons (TestIsUpTo (2 ^ 40)) (at_least g) (row_tests gs) (one.coefficients, one.constant) rest.0,
      All-cons (λ q. IsOver n (form_in q)) (at_least g) (row_tests gs) one.entries rest.1,
    )
tests_shaped n (f ∷ fs) gs eqs rows =
    let one = All-head (IsRowOver n) f fs eqs in
    let rest = tests_shaped n fs gs (All-tail (IsRowOver n) f fs eqs) rows in
    let tests = equal_tests fs (row_tests gs) in (
      All-cons (TestIsUpTo (2 ^ 40)) (equal f) tests (one.coefficients, one.constant) rest.0,
      All-cons (λ q. IsOver n (form_in q)) (equal f) tests one.entries rest.1,
    )

turns_small : (n i m : ℕ) → All (IsUpTo (2 ^ 40)) (place_forms n i m)
turns_small n i zero = All-nil (IsUpTo (2 ^ 40))
turns_small n i (suc m) =
    let one = place_small n i (pos 1) (pos 0) (omega arith) (omega arith) in
    All-cons (IsUpTo (2 ^ 40)) (place_form n i (pos 1) (pos 0)) (place_forms n (suc i) m)
    (one.coefficients, one.constant) (turns_small n (suc i) m)

turns_over : (n i m : ℕ) → All (IsOver n) (place_forms n i m)
turns_over n i zero = All-nil (IsOver n)
turns_over n i (suc m) =
    All-cons (IsOver n) (place_form n i (pos 1) (pos 0)) (place_forms n (suc i) m)
    (length-set (zeros n) i (pos 1) ∙ length-zeros n) (turns_over n (suc i) m)

turns_count : (n i m : ℕ) → length (place_forms n i m) ≡ m
turns_count n i zero = refl
turns_count n i (suc m) = ap suc (turns_count n (suc i) m)

-- the constraints of a set's outline
rows_in : (n : ℕ) (fs : List Affine) → All (λ f. variables_of f ≡ n) fs → All HasSmallNumbers fs → All (IsRowOver n) fs
rows_in n fs sized small = λ k d inside. row_over n (get_or fs k d) (sized k d inside) (small k d inside)

under_shaped : (n : ℕ) (sets : List Scanned) (tests : List Test) (t : Tree)
    → All (TestIsUpTo (2 ^ 40)) tests × All (λ q. IsOver n (form_in q)) tests → AreShaped n sets (more t none)
    → AreShaped n sets (more (under tests t) none)
under_shaped n sets [] t are h = h
under_shaped n sets (test ∷ tests) t are h =
    record { small = ((are.0, h.small), tt); over = ((are.1, h.over), tt); instances = (h.instances, tt) }

leaf_shaped : (n : ℕ) (all : List Scanned) (o : Outline) → variables_in o.set.now.system ≡ n → In o.set.now all
    → AreShaped n all (more (leaf_tree o.set.now) none)
leaf_shaped n all o count inside =
    let s = o.set.now in
    let v = variables_in s.system in
    let eqs = rows_in v s.system.equalities o.are.sized.equalities_sized o.are.small.0 in
    let rows = rows_in v s.system.rows o.are.sized.rows_sized o.are.small.1 in
    subst (λ m. AreShaped m all (more (leaf_tree s) none)) count
    (under_shaped v all (tests_of s) (instance s.statement (turn_forms s))
    (tests_shaped v s.system.equalities s.system.rows eqs rows) (record {
      small = (turns_small v s.first s.iterators, tt);
      over = (turns_over v s.first s.iterators, tt);
      instances = ((s, inside, refl, turns_count v s.first s.iterators), tt);
    }))

leaves_in : (n : ℕ) (all : List Scanned) (os : List Outline) → All (λ o. variables_in o.set.now.system ≡ n) os
    → ((s : Scanned) → In s (sets_in os) → In s all) → AreShaped n all (leaves (map own_leaf (sets_in os)))
leaves_in n all [] count inside = record { small = tt; over = tt; instances = tt }
leaves_in n all (o ∷ os) count inside =
    let P : Outline → Type 0 = λ q. variables_in q.set.now.system ≡ n in
    let one = leaf_shaped n all o (All-head P o os count) (inside o.set.now (inl refl)) in
    let rest = leaves_in n all os (All-tail P o os count) (λ s i. inside s (inr i)) in record {
      small = (one.small.0, rest.small);
      over = (one.over.0, rest.over);
      instances = (one.instances.0, rest.instances);
    }

pub leaves_shaped : (n : ℕ) (os : List Outline) → All (λ o. variables_in o.set.now.system ≡ n) os
    → AreShaped n (sets_in os) (leaves (map own_leaf (sets_in os)))
leaves_shaped n os count = leaves_in n (sets_in os) os count (λ s i. i)

-- a loop between rows of a hull round what is so
pub hull_rows : (depth n : ℕ) (os : List Outline) (fs : List Affine) → AreHullRows depth n os fs → All (IsRowOver n) fs
hull_rows depth n os fs h = λ k d inside. row_over n (get_or fs k d) (h k d inside).sized (h k d inside).small

pub loop_shaped : (m n : ℕ) (sets : List Scanned) (flag : Bool) (low high : Affine) (others : List Affine)
    (body : Trees) → m < suc n → All (IsRowOver (suc n)) (low ∷ high ∷ others) → AreShaped (suc n) sets body
    → AreShaped n sets (more (loop flag (low_bounds m low (lows_in m others)) (high_bounds m high (highs_in m others))
    body) none)
loop_shaped m n sets flag low high others body inside rows h =
    let P = IsRowOver (suc n) in
    let rest = All-tail P low (high ∷ others) rows in
    let behind = All-tail P high others rest in
    let lows = lows_over m n low (lows_in m others) inside
    (All-cons P low (lows_in m others) (All-head P low (high ∷ others) rows) (lows_of P m others behind)) in
    let highs = highs_over m n high (highs_in m others) inside
    (All-cons P high (highs_in m others) (All-head P high others rest) (highs_of P m others behind)) in record {
      small = ((lows.0, highs.0, h.small), tt);
      over = ((lows.1, highs.1, h.over), tt);
      instances = (h.instances, tt);
    }
