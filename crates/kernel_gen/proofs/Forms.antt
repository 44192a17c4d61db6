-- Heads, declarations and forms of kernels within the limits: a literal form by one test that computes.
use Rattle.scop_syntax.proofs.Common.{◌≡◌, ◌==◌, ℕ, ◌+◌, ◌≤◌, Bool, true, false, if◌then◌else◌, List, [], ◌∷◌, length}
use Rattle.scop_syntax.proofs.Common.{inl, subst, sym, leb, arith, ℤ, pos, negsuc, ◌≤ℤ◌, All, unsigned_abs, ints}
use Rattle.scop_syntax.proofs.Common.{All-nil, All-cons, Affine, value_of, Declaration, Sorted, AreAtMost, IsAffine}
use Rattle.scop_syntax.proofs.Common.{IsCondition, IsDeclaration, IsForm, IsHead, own, both, in_map_from}
use Rattle.std.proofs.Common.{leb-true, eqb-true}
use Rattle.kernel_gen.specs.Programs.{arrays_of, upwards}

-- whether each entry is at most k in absolute value
abbrev are_small : ℕ → List ℤ → Bool
are_small k [] = true
are_small k (x ∷ xs) = if leb (unsigned_abs x) k then are_small k xs else false

at_most : (k : ℕ) (xs : List ℤ) → are_small k xs ≡ true → AreAtMost k xs
at_most k [] small = tt
at_most k (x ∷ xs) small =
    let here = both (leb (unsigned_abs x) k) (are_small k xs) small in
    (leb-true (unsigned_abs x) k here.0, at_most k xs here.1)

-- whether a form is one over n entries, with coefficients within k and a constant within c
abbrev fits : ℕ → ℕ → ℕ → Affine → Bool
fits n k c form = if length form.coefficients == n then
    (if are_small k form.coefficients then leb (unsigned_abs form.constant) c else false) else false

pub is_form : (n k c : ℕ) (form : Affine) → fits n k c form ≡ true → IsForm n k c form
is_form n k c form fit =
    let first = both (length form.coefficients == n) _ fit in
    let second = both (are_small k form.coefficients) (leb (unsigned_abs form.constant) c) first.1 in
    record {
      entries = eqb-true (length form.coefficients) n first.0;
      coefficients = at_most k form.coefficients second.0;
      constant = leb-true (unsigned_abs form.constant) c second.1;
    }

-- a head upwards whose condition subtracts the iterator
pub is_head : (n : ℕ) (iterator : List ℕ) (first condition : Affine) → IsAffine n first → IsCondition (n + 1) condition
    → own n (upwards iterator first condition) ≡ negsuc 0 → IsHead n (upwards iterator first condition)
is_head n iterator first condition is_first is_condition down =
    record {
      first = is_first;
      condition = is_condition;
      stride = omega arith;
      direction = inl (down, omega (arith, ints));
    }

pub all_one : {A : Type 0} (P : A → Type 0) (x : A) → P x → All P (x ∷ [])
all_one P x is = All-cons P x [] is (All-nil P)

pub all_two : {A : Type 0} (P : A → Type 0) (x y : A) → P x → P y → All P (x ∷ y ∷ [])
all_two P x y is also = All-cons P x (y ∷ []) is (all_one P y also)

-- arrays with the same one to four extents are declared well
pub declared : (n before : ℕ) (names : List (List ℕ)) (extents : List Affine) → before ≤ n → 1 ≤ length extents
    → length extents ≤ 4 → All (IsAffine n) extents → All (IsDeclaration n) (arrays_of names before extents)
declared n before [] extents place some few affine = All-nil (IsDeclaration n)
declared n before (name ∷ names) extents place some few affine =
    All-cons (IsDeclaration n)
    (record { name = name; parameters_before = before; narrow = false; extents = extents })
    (arrays_of names before extents) (record { place = place; some = some; few = few; extents = affine })
    (declared n before names extents place some few affine)

-- such arrays stand behind one number of parameters
pub in_order : (before : ℕ) (names : List (List ℕ)) (extents : List Affine)
    → Sorted (λ (d e : Declaration). d.parameters_before ≤ e.parameters_before) (arrays_of names before extents)
in_order before [] extents = tt
in_order before (name ∷ names) extents = (
  λ e stands. let found =
      in_map_from (λ n. record { name = n; parameters_before = before; narrow = false; extents = extents }) e names
      stands in
      subst (λ (d : Declaration). before ≤ d.parameters_before) (sym found.2) (omega arith),
  in_order before names extents,
)

abbrev pub IsPositive : List ℤ → Affine → Type 0
IsPositive params form = pos 1 ≤ℤ value_of form params

-- their extents are positive if those of one are
pub positive : (before : ℕ) (names : List (List ℕ)) (extents : List Affine) (params : List ℤ)
    → All (IsPositive params) extents
    → All (λ (d : Declaration). All (IsPositive params) d.extents) (arrays_of names before extents)
positive before [] extents params high = All-nil (λ (d : Declaration). All (IsPositive params) d.extents)
positive before (name ∷ names) extents params high =
    All-cons (λ (d : Declaration). All (IsPositive params) d.extents) _ (arrays_of names before extents) high
    (positive before names extents params high)
