-- Comparisons that hold at a point, one by one and as a system.
use Rattle.scop_syntax.proofs.Common.{◌≡◌, ℕ, ℤ, pos, List, [], ◌∷◌, ◌++◌, map, ap, refl, ◌≤ℤ◌, All, All-nil, All-cons}
use Rattle.scop_syntax.proofs.Common.{All-head, All-tail, Affine, value_of, Test, at_least, equal, AllHold}
use Rattle.integer_sets.specs.Constraints.{Constraints}
use Rattle.integer_sets.specs.Points.{Satisfies}
use Rattle.iteration_domains.specs.Constraints.{equalities_in, rows_in, constraints_of, tests_of}

pub hold_append : (rows others : List Test) (x : List ℤ) → AllHold rows x → AllHold others x
    → AllHold (rows ++ others) x
hold_append [] others x g h = h
hold_append (row ∷ rows) others x g h = (g.0, hold_append rows others x g.1 h)

pub hold_front : (rows others : List Test) (x : List ℤ) → AllHold (rows ++ others) x → AllHold rows x
hold_front [] others x h = tt
hold_front (row ∷ rows) others x h = (h.0, hold_front rows others x h.1)

pub hold_back : (rows others : List Test) (x : List ℤ) → AllHold (rows ++ others) x → AllHold others x
hold_back [] others x h = h
hold_back (row ∷ rows) others x h = hold_back rows others x h.1

-- a form that is 0 at x, and one that is not negative there
abbrev IsZeroAt : List ℤ → Affine → Type 0
IsZeroAt x f = value_of f x ≡ pos 0

abbrev IsUpAt : List ℤ → Affine → Type 0
IsUpAt x f = pos 0 ≤ℤ value_of f x

-- the equalities and the rows hold exactly where the comparisons do
zeros_of : (tests : List Test) (x : List ℤ) → AllHold tests x → All (λ f. value_of f x ≡ pos 0) (equalities_in tests)
zeros_of [] x h = All-nil (IsZeroAt x)
zeros_of (at_least f ∷ tests) x h = zeros_of tests x h.1
zeros_of (equal f ∷ tests) x h = All-cons (IsZeroAt x) f (equalities_in tests) h.0 (zeros_of tests x h.1)

ups_of : (tests : List Test) (x : List ℤ) → AllHold tests x → All (λ f. pos 0 ≤ℤ value_of f x) (rows_in tests)
ups_of [] x h = All-nil (IsUpAt x)
ups_of (at_least f ∷ tests) x h = All-cons (IsUpAt x) f (rows_in tests) h.0 (ups_of tests x h.1)
ups_of (equal f ∷ tests) x h = ups_of tests x h.1

hold_of : (tests : List Test) (x : List ℤ) → All (λ f. value_of f x ≡ pos 0) (equalities_in tests)
    → All (λ f. pos 0 ≤ℤ value_of f x) (rows_in tests) → AllHold tests x
hold_of [] x zeros ups = tt
hold_of (at_least f ∷ tests) x zeros ups =
    (All-head (IsUpAt x) f (rows_in tests) ups, hold_of tests x zeros (All-tail (IsUpAt x) f (rows_in tests) ups))
hold_of (equal f ∷ tests) x zeros ups = (
  All-head (IsZeroAt x) f (equalities_in tests) zeros,
  hold_of tests x (All-tail (IsZeroAt x) f (equalities_in tests) zeros) ups,
)

pub satisfied : (d m : ℕ) (tests : List Test) (x : List ℤ) → AllHold tests x → Satisfies (constraints_of d m tests) x
satisfied d m tests x h = (zeros_of tests x h, ups_of tests x h)

pub all_hold_at : (d m : ℕ) (tests : List Test) (x : List ℤ) → Satisfies (constraints_of d m tests) x → AllHold tests x
all_hold_at d m tests x h = hold_of tests x h.0 h.1

-- the comparisons of a system
zeros_hold : (forms : List Affine) (x : List ℤ) → All (λ f. value_of f x ≡ pos 0) forms → AllHold (map equal forms) x
zeros_hold [] x h = tt
zeros_hold (f ∷ fs) x h = (All-head (IsZeroAt x) f fs h, zeros_hold fs x (All-tail (IsZeroAt x) f fs h))

ups_hold : (forms : List Affine) (x : List ℤ) → All (λ f. pos 0 ≤ℤ value_of f x) forms → AllHold (map at_least forms) x
ups_hold [] x h = tt
ups_hold (f ∷ fs) x h = (All-head (IsUpAt x) f fs h, ups_hold fs x (All-tail (IsUpAt x) f fs h))

hold_zeros : (forms : List Affine) (x : List ℤ) → AllHold (map equal forms) x → All (λ f. value_of f x ≡ pos 0) forms
hold_zeros [] x h = All-nil (IsZeroAt x)
hold_zeros (f ∷ fs) x h = All-cons (IsZeroAt x) f fs h.0 (hold_zeros fs x h.1)

hold_ups : (forms : List Affine) (x : List ℤ) → AllHold (map at_least forms) x → All (λ f. pos 0 ≤ℤ value_of f x) forms
hold_ups [] x h = All-nil (IsUpAt x)
hold_ups (f ∷ fs) x h = All-cons (IsUpAt x) f fs h.0 (hold_ups fs x h.1)

pub tests_hold : (s : Constraints) (x : List ℤ) → Satisfies s x → AllHold (tests_of s) x
tests_hold s x h =
    hold_append (map equal s.equalities) (map at_least s.rows) x (zeros_hold s.equalities x h.0) (ups_hold s.rows x h.1)

pub hold_tests : (s : Constraints) (x : List ℤ) → AllHold (tests_of s) x → Satisfies s x
hold_tests s x h = (
  hold_zeros s.equalities x (hold_front (map equal s.equalities) (map at_least s.rows) x h),
  hold_ups s.rows x (hold_back (map equal s.equalities) (map at_least s.rows) x h),
)

-- lists of comparisons in parts
pub equalities_in-append : (rows others : List Test)
    → equalities_in (rows ++ others) ≡ equalities_in rows ++ equalities_in others
equalities_in-append [] others = refl
equalities_in-append (at_least f ∷ rows) others = equalities_in-append rows others
equalities_in-append (equal f ∷ rows) others = ap (λ (fs : List Affine). f ∷ fs) (equalities_in-append rows others)

pub rows_in-append : (rows others : List Test) → rows_in (rows ++ others) ≡ rows_in rows ++ rows_in others
rows_in-append [] others = refl
rows_in-append (at_least f ∷ rows) others = ap (λ (fs : List Affine). f ∷ fs) (rows_in-append rows others)
rows_in-append (equal f ∷ rows) others = rows_in-append rows others
