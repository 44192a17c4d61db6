-- Forms over the variables of a pair as the code puts them together: their parts, how many variables they have, and how
-- large they are.
use Rattle.conflict_deps.proofs.Common.{◌≡◌, ℕ, zero, suc, Bool, true, ◌+◌, ◌-◌, ◌<◌, ◌≤◌, ℤ, negsuc, List, [], ◌∷◌}
use Rattle.conflict_deps.proofs.Common.{◌++◌, length, map, take, drop, ap, ap₂, subst, sym, ◌∙◌, refl, arith}
use Rattle.conflict_deps.proofs.Common.{length-append, get_or, drop-cons, add-one, All, All-nil, All-append, All-weaker}
use Rattle.conflict_deps.proofs.Common.{zeros, Affine, multiple_of_form, length-zeros, Test, at_least, equal, common}
use Rattle.conflict_deps.proofs.Common.{append_assoc, append-nil, variables_of, Constraints, equalities_in, rows_in}
use Rattle.conflict_deps.proofs.Common.{tests_of, variable, variables, form_size, IsNarrow, equalities_in-append}
use Rattle.conflict_deps.proofs.Common.{rows_in-append, size-variable, Side, loops_of, difference_of_forms, spread}
use Rattle.conflict_deps.proofs.Common.{source_form, target_form, map_test, same_subscripts, equal_turns, one_form}
use Rattle.conflict_deps.proofs.Common.{later_turn, After, afters, dep_of, pair_size, source_rows, target_rows}
use Rattle.conflict_deps.proofs.Common.{cell_rows, parameter_rows, tests_between, Dependence, CanPair, ShowsTests}
use Rattle.conflict_deps.proofs.Common.{GainsTests, order_at}
use Rattle.scop_syntax.proofs.Common.{◌^◌, drop_of_length-le, take-length, All-cons, All-head, All-tail, test_form}
use Rattle.scop_syntax.proofs.Common.{multiples, length-sums, length-multiples}
use Rattle.std.proofs.Common.{length-drop}
use Rattle.integer_sets.specs.Constraints.{IsSized}
use Rattle.iteration_domains.specs.Sizes.{size}
use Rattle.iteration_domains.proofs.Surroundings.{length-variable}
use Rattle.iteration_domains.proofs.Sizes.{size-sum, size-multiple, size-zeros}
use Rattle.conflict_deps.specs.Conflicts.{step}
use Rattle.conflict_deps.specs.declared.deps.PairRows.{PairRows}

-- the parts of a form of the source
pub spread_parts : (d e : ℕ) (cs : List ℤ) → d ≤ length cs → spread e d cs ≡ take d cs ++ (zeros e ++ drop d cs)
spread_parts zero e cs h = refl
spread_parts (suc d) e [] h = absurd (omega arith)
spread_parts (suc d) e (c ∷ cs) h = ap (λ (zs : List ℤ). c ∷ zs) (spread_parts d e cs (omega arith))

length-spread : (d e : ℕ) (cs : List ℤ) → d ≤ length cs → length (spread e d cs) ≡ length cs + e
length-spread zero e cs h = let l = length-append (zeros e) cs in let z = length-zeros e in omega arith
length-spread (suc d) e [] h = absurd (omega arith)
length-spread (suc d) e (c ∷ cs) h = let r = length-spread d e cs (omega arith) in omega arith

size-padded : (n : ℕ) (cs : List ℤ) → size (zeros n ++ cs) ≡ size cs
size-padded zero cs = refl
size-padded (suc n) cs = let r = size-padded n cs in omega arith

size-spread : (d e : ℕ) (cs : List ℤ) → size (spread e d cs) ≤ size cs
size-spread zero e cs = let r = size-padded e cs in omega arith
size-spread (suc d) e [] = omega arith
size-spread (suc d) e (c ∷ cs) = let r = size-spread d e cs in omega arith

pub length-source : (d e m : ℕ) (f : Affine) → variables_of f ≡ d + m → variables_of (source_form d e f) ≡ d + e + m
length-source d e m f h = let l = length-spread d e f.coefficients (omega arith) in omega arith

pub length-target : (d e m : ℕ) (f : Affine) → variables_of f ≡ e + m → variables_of (target_form d f) ≡ d + e + m
length-target d e m f h =
    let l = length-append (zeros d) f.coefficients in let z = length-zeros d in omega arith

pub size-source : (d e : ℕ) (f : Affine) → form_size (source_form d e f) ≤ form_size f
size-source d e f = let r = size-spread d e f.coefficients in omega arith

pub size-target : (d : ℕ) (f : Affine) → form_size (target_form d f) ≤ form_size f
size-target d f = let r = size-padded d f.coefficients in omega arith

-- differences
pub length-difference : (n : ℕ) (f g : Affine) → variables_of f ≡ n → variables_of g ≡ n
    → variables_of (difference_of_forms f g) ≡ n
length-difference n f g a b =
    let m = length-multiples (negsuc 0) g.coefficients ∙ b in
    length-sums f.coefficients (multiples (negsuc 0) g.coefficients) (a ∙ sym m) ∙ a

pub size-difference : (f g : Affine) → form_size (difference_of_forms f g) ≤ form_size f + form_size g
size-difference f g =
    let s = size-sum f (multiple_of_form (negsuc 0) g) in
    let m = size-multiple (negsuc 0) g in
    omega arith

pub length-step : (n d k : ℕ) → variables_of (step n d k) ≡ n
length-step n d k =
    length-difference n (variable n (d + k)) (variable n k) (length-variable n (d + k)) (length-variable n k)

pub size-step : (n d k : ℕ) → form_size (step n d k) ≤ 2
size-step n d k =
    let s = size-difference (variable n (d + k)) (variable n k) in
    let a = size-variable n (d + k) in
    let b = size-variable n k in
    omega arith

pub size-one : (n : ℕ) → form_size (one_form n) ≡ 1
size-one n = let z = size-zeros n in omega arith

-- a form of a conflict's system: over its n variables, and its numbers lie far within 128 bits
pub record Fits (n : ℕ) (f : Affine) : Type 0 where
  pub variables : variables_of f ≡ n
  pub numbers : form_size f ≤ 2 ^ 48

-- a comparison of such
abbrev pub FitsTest : ℕ → Test → Type 0
FitsTest n test = Fits n (test_form test)

pub equalities_fit : (n : ℕ) (tests : List Test) → All (FitsTest n) tests → All (Fits n) (equalities_in tests)
equalities_fit n [] h = All-nil (Fits n)
equalities_fit n (at_least f ∷ tests) h = equalities_fit n tests (All-tail (FitsTest n) (at_least f) tests h)
equalities_fit n (equal f ∷ tests) h =
    All-cons (Fits n) f (equalities_in tests) (All-head (FitsTest n) (equal f) tests h)
    (equalities_fit n tests (All-tail (FitsTest n) (equal f) tests h))

pub rows_fit : (n : ℕ) (tests : List Test) → All (FitsTest n) tests → All (Fits n) (rows_in tests)
rows_fit n [] h = All-nil (Fits n)
rows_fit n (at_least f ∷ tests) h =
    All-cons (Fits n) f (rows_in tests) (All-head (FitsTest n) (at_least f) tests h)
    (rows_fit n tests (All-tail (FitsTest n) (at_least f) tests h))
rows_fit n (equal f ∷ tests) h = rows_fit n tests (All-tail (FitsTest n) (equal f) tests h)

pub cells_fit : (d e m : ℕ) (fs gs : List Affine) → All (IsNarrow (d + m)) fs → All (IsNarrow (e + m)) gs
    → All (FitsTest (d + e + m)) (same_subscripts d e fs gs)
cells_fit d e m [] gs a b = All-nil (FitsTest (d + e + m))
cells_fit d e m (f ∷ fs) [] a b = All-nil (FitsTest (d + e + m))
cells_fit d e m (f ∷ fs) (g ∷ gs) a b =
    let own = All-head (IsNarrow (d + m)) f fs a in
    let other = All-head (IsNarrow (e + m)) g gs b in
    let one = own.numbers in
    let two = other.numbers in
    let p = size-source d e f in
    let q = size-target d g in
    let r = size-difference (source_form d e f) (target_form d g) in
    All-cons (FitsTest (d + e + m)) (equal (difference_of_forms (source_form d e f) (target_form d g)))
    (same_subscripts d e fs gs)
    (record {
      variables = length-difference (d + e + m) (source_form d e f) (target_form d g)
          (length-source d e m f own.variables)
          (length-target d e m g other.variables);
      numbers = omega arith;
    })
    (cells_fit d e m fs gs (All-tail (IsNarrow (d + m)) f fs a) (All-tail (IsNarrow (e + m)) g gs b))

pub turns_fit : (n d k : ℕ) → All (FitsTest n) (equal_turns n d k)
turns_fit n d zero = All-nil (FitsTest n)
turns_fit n d (suc k) =
    let s = size-step n d k in
    All-append (FitsTest n) (equal_turns n d k) (equal (step n d k) ∷ []) (turns_fit n d k)
    (All-cons (FitsTest n) (equal (step n d k)) [] (record { variables = length-step n d k; numbers = omega arith })
    (All-nil (FitsTest n)))

pub later_fits : (n d k : ℕ) → All (FitsTest n) (equal_turns n d k ++ later_turn n d k ∷ [])
later_fits n d k =
    let s = size-step n d k in
    let z = size-one n in
    let c = size-difference (step n d k) (one_form n) in
    All-append (FitsTest n) (equal_turns n d k) (later_turn n d k ∷ []) (turns_fit n d k)
    (All-cons (FitsTest n) (later_turn n d k) []
    (record {
      variables = length-difference n (step n d k) (one_form n) (length-step n d k) (length-zeros n);
      numbers = omega arith;
    })
    (All-nil (FitsTest n)))

-- both lists of such comparisons are over n variables
equalities_over : (n : ℕ) (tests : List Test) → All (FitsTest n) tests
    → All (λ f. variables_of f ≡ n) (equalities_in tests)
equalities_over n tests h =
    All-weaker (Fits n) (λ f. variables_of f ≡ n) (λ f fits. fits.variables) (equalities_in tests)
    (equalities_fit n tests h)

rows_over : (n : ℕ) (tests : List Test) → All (FitsTest n) tests → All (λ f. variables_of f ≡ n) (rows_in tests)
rows_over n tests h =
    All-weaker (Fits n) (λ f. variables_of f ≡ n) (λ f fits. fits.variables) (rows_in tests) (rows_fit n tests h)

-- equal subscripts, one more
pub cells_more : (d e : ℕ) (fs gs : List Affine) (at : ℕ) (f g h : Affine) (out next whole : List Affine)
    → at < length fs → at < length gs → f ≡ get_or fs at f → g ≡ get_or gs at g
    → h ≡ difference_of_forms (source_form d e f) (target_form d g) → next ≡ out ++ h ∷ []
    → out ++ equalities_in (same_subscripts d e (drop at fs) (drop at gs)) ≡ whole
    → next ++ equalities_in (same_subscripts d e (drop (at + 1) fs) (drop (at + 1) gs)) ≡ whole
cells_more d e fs gs at f g h out next whole in_fs in_gs is_f is_g made grown so_far =
    let rest = equalities_in (same_subscripts d e (drop (at + 1) fs) (drop (at + 1) gs)) in
    let one = difference_of_forms (source_form d e f) (target_form d g) in
    let here : equalities_in (same_subscripts d e (drop at fs) (drop at gs)) ≡ one ∷ rest =
    rw (drop-cons fs at f in_fs, drop-cons gs at g in_gs, ← is_f, ← is_g, add-one at) refl in
    ap (λ (ys : List Affine). ys ++ rest) grown ∙ (append_assoc out (h ∷ []) rest
    ∙ (ap (λ (z : Affine). out ++ z ∷ rest) made ∙ (ap (λ (ys : List Affine). out ++ ys) (sym here) ∙ so_far)))

-- equal subscripts, all of them
pub cells_all : (d e : ℕ) (fs gs : List Affine) (at : ℕ) (out whole : List Affine) → length fs ≤ at
    → out ++ equalities_in (same_subscripts d e (drop at fs) (drop at gs)) ≡ whole → out ≡ whole
cells_all d e fs gs at out whole past so_far =
    sym (append-nil out) ∙ (ap (λ (ys : List Affine). out ++ equalities_in (same_subscripts d e ys (drop at gs)))
    (sym (drop_of_length-le fs past)) ∙ so_far)

-- equal subscripts, when one side has no more
pub cells_end : (d e : ℕ) (fs gs : List Affine) (at : ℕ) (out whole : List Affine)
    → at < length fs → length gs ≤ at
    → out ++ equalities_in (same_subscripts d e (drop at fs) (drop at gs)) ≡ whole → out ≡ whole
cells_end d e fs gs at out whole h past so_far =
    let none : (xs : List Affine) → equalities_in (same_subscripts d e xs []) ≡ [] = ends in
    let gone : drop at gs ≡ [] = dropped gs at past in
    sym (append-nil out)
    ∙ (ap (λ (xs : List Affine). out ++ xs)
    (sym (ap (λ (ys : List Affine). equalities_in (same_subscripts d e (drop at fs) ys)) gone ∙ none (drop at fs)))
    ∙ so_far)
  where
    ends : (xs : List Affine) → equalities_in (same_subscripts d e xs []) ≡ []
    ends [] = refl
    ends (x ∷ xs) = refl

    dropped : (xs : List Affine) (i : ℕ) → length xs ≤ i → drop i xs ≡ []
    dropped [] zero h = refl
    dropped [] (suc i) h = refl
    dropped (x ∷ xs) zero h = absurd (omega arith)
    dropped (x ∷ xs) (suc i) h = dropped xs i (omega arith)

-- equal turns, of which the first are there
pub turns_step : (n d at : ℕ) (out next start : List Affine) → out ≡ start ++ equalities_in (equal_turns n d at)
    → next ≡ out ++ step n d at ∷ [] → next ≡ start ++ equalities_in (equal_turns n d (at + 1))
turns_step n d at out next start so_far is =
    let up : suc at ≡ at + 1 = omega arith in
    let split : equalities_in (equal_turns n d (suc at)) ≡ equalities_in (equal_turns n d at) ++ step n d at ∷ [] =
    equalities_in-append (equal_turns n d at) (equal (step n d at) ∷ []) in
    is ∙ (ap (λ (xs : List Affine). xs ++ step n d at ∷ []) so_far
    ∙ (append_assoc start (equalities_in (equal_turns n d at)) (step n d at ∷ [])
    ∙ (ap (λ (xs : List Affine). start ++ xs) (sym split)
    ∙ ap (λ (k : ℕ). start ++ equalities_in (equal_turns n d k)) up)))

-- the same loops, of which the first are there
pub common_end : (ks ls : List ℕ) (at : ℕ) → at < length ks → length ls ≤ at
    → at + common (drop at ks) (drop at ls) ≡ common ks ls → at ≡ common ks ls
common_end ks ls at h past so_far = let z = none ks ls at h past in omega arith
  where
    none : (ks ls : List ℕ) (at : ℕ) → at < length ks → length ls ≤ at → common (drop at ks) (drop at ls) ≡ 0
    none [] ls at h past = absurd (omega arith)
    none (k ∷ ks) [] zero h past = refl
    none (k ∷ ks) [] (suc at) h past = empty (drop at ks)
      where
        empty : (xs : List ℕ) → common xs [] ≡ 0
        empty [] = refl
        empty (x ∷ xs) = refl
    none (k ∷ ks) (l ∷ ls) zero h past = absurd (omega arith)
    none (k ∷ ks) (l ∷ ls) (suc at) h past = none ks ls at (omega arith) (omega arith)

-- both domains
pub equalities-kept : (h : Affine → Affine) (s : Constraints)
    → equalities_in (map (map_test h) (tests_of s)) ≡ map h s.equalities
equalities-kept h s = both s.equalities s.rows
  where
    ups : (fs : List Affine) → equalities_in (map (map_test h) (map at_least fs)) ≡ []
    ups [] = refl
    ups (f ∷ fs) = ups fs

    both : (es fs : List Affine) → equalities_in (map (map_test h) (map equal es ++ map at_least fs)) ≡ map h es
    both [] fs = ups fs
    both (e ∷ es) fs = ap (λ (xs : List Affine). h e ∷ xs) (both es fs)

pub rows-kept : (h : Affine → Affine) (s : Constraints) → rows_in (map (map_test h) (tests_of s)) ≡ map h s.rows
rows-kept h s = both s.equalities s.rows
  where
    ups : (fs : List Affine) → rows_in (map (map_test h) (map at_least fs)) ≡ map h fs
    ups [] = refl
    ups (f ∷ fs) = ap (λ (xs : List Affine). h f ∷ xs) (ups fs)

    both : (es fs : List Affine) → rows_in (map (map_test h) (map equal es ++ map at_least fs)) ≡ map h fs
    both [] fs = ups fs
    both (e ∷ es) fs = both es fs

sized_sources : (d e m : ℕ) (fs : List Affine) → All (λ f. variables_of f ≡ d + m) fs
    → All (λ f. variables_of f ≡ d + e + m) (map (source_form d e) fs)
sized_sources d e m [] all = All-nil (λ f. variables_of f ≡ d + e + m)
sized_sources d e m (f ∷ fs) all =
    All-cons (λ g. variables_of g ≡ d + e + m) (source_form d e f) (map (source_form d e) fs)
    (length-source d e m f (All-head (λ g. variables_of g ≡ d + m) f fs all))
    (sized_sources d e m fs (All-tail (λ g. variables_of g ≡ d + m) f fs all))

sized_targets : (d e m : ℕ) (fs : List Affine) → All (λ f. variables_of f ≡ e + m) fs
    → All (λ f. variables_of f ≡ d + e + m) (map (target_form d) fs)
sized_targets d e m [] all = All-nil (λ f. variables_of f ≡ d + e + m)
sized_targets d e m (f ∷ fs) all =
    All-cons (λ g. variables_of g ≡ d + e + m) (target_form d f) (map (target_form d) fs)
    (length-target d e m f (All-head (λ g. variables_of g ≡ e + m) f fs all))
    (sized_targets d e m fs (All-tail (λ g. variables_of g ≡ e + m) f fs all))

pub domains_shown : (m : ℕ) (s t : Side) (rows : PairRows)
    → IsSized (loops_of s + m) s.statement.domain.equalities s.statement.domain.rows
    → IsSized (loops_of t + m) t.statement.domain.equalities t.statement.domain.rows
    → rows.equalities.items ≡ map (source_form (loops_of s) (loops_of t)) s.statement.domain.equalities
    ++ map (target_form (loops_of s)) t.statement.domain.equalities
    → rows.rows.items ≡ map (source_form (loops_of s) (loops_of t)) s.statement.domain.rows
    ++ map (target_form (loops_of s)) t.statement.domain.rows
    → ShowsTests (pair_size m s t) rows (source_rows s t ++ target_rows s t)
domains_shown m s t rows first second equalities ups =
    let d = loops_of s in
    let e = loops_of t in
    let P : Affine → Type 0 = λ f. variables_of f ≡ d + e + m in
    let a = s.statement.domain in
    let b = t.statement.domain in
    record {
      equalities = equalities ∙ sym (equalities_in-append (source_rows s t) (target_rows s t)
          ∙ ap₂ (λ (xs ys : List Affine). xs ++ ys) (equalities-kept (source_form d e) a)
          (equalities-kept (target_form d) b));
      rows_are = ups ∙ sym (rows_in-append (source_rows s t) (target_rows s t)
          ∙ ap₂ (λ (xs ys : List Affine). xs ++ ys) (rows-kept (source_form d e) a) (rows-kept (target_form d) b));
      sized = record {
        equalities_sized = subst (λ (fs : List Affine). All (λ f. variables_of f ≡ d + e + m) fs) (sym equalities)
            (All-append P (map (source_form d e) a.equalities) (map (target_form d) b.equalities)
            (sized_sources d e m a.equalities first.equalities_sized)
            (sized_targets d e m b.equalities second.equalities_sized));
        rows_sized = subst (λ (fs : List Affine). All (λ f. variables_of f ≡ d + e + m) fs) (sym ups)
            (All-append P (map (source_form d e) a.rows) (map (target_form d) b.rows)
            (sized_sources d e m a.rows first.rows_sized) (sized_targets d e m b.rows second.rows_sized));
      };
    }

-- rows that gain more equalities, or more rows
gained : (n : ℕ) (old new : PairRows) (gains : List Test)
    → new.equalities.items ≡ old.equalities.items ++ equalities_in gains
    → new.rows.items ≡ old.rows.items ++ rows_in gains → All (FitsTest n) gains → GainsTests n old new gains
gained n old new gains equalities ups fit tests shows =
    let P : Affine → Type 0 = λ f. variables_of f ≡ n in
    record {
      equalities = equalities ∙ (ap (λ (xs : List Affine). xs ++ equalities_in gains) shows.equalities
          ∙ sym (equalities_in-append tests gains));
      rows_are = ups ∙ (ap (λ (xs : List Affine). xs ++ rows_in gains) shows.rows_are
          ∙ sym (rows_in-append tests gains));
      sized = record {
        equalities_sized = subst (λ (fs : List Affine). All (λ f. variables_of f ≡ n) fs) (sym equalities)
            (All-append P old.equalities.items (equalities_in gains) shows.sized.equalities_sized
            (equalities_over n gains fit));
        rows_sized = subst (λ (fs : List Affine). All (λ f. variables_of f ≡ n) fs) (sym ups)
            (All-append P old.rows.items (rows_in gains) shows.sized.rows_sized (rows_over n gains fit));
      };
    }

-- equal subscripts
pub no_rows_in_cells : (d e : ℕ) (fs gs : List Affine) → rows_in (same_subscripts d e fs gs) ≡ []
no_rows_in_cells d e [] gs = refl
no_rows_in_cells d e (f ∷ fs) [] = refl
no_rows_in_cells d e (f ∷ fs) (g ∷ gs) = no_rows_in_cells d e fs gs

pub cells_gained : (m : ℕ) (s t : Side) (old new : PairRows) → CanPair m s → CanPair m t
    → new.equalities.items ≡ old.equalities.items ++ equalities_in (cell_rows s t) → new.rows.items ≡ old.rows.items
    → GainsTests (pair_size m s t) old new (cell_rows s t)
cells_gained m s t old new a b equalities same =
    let d = loops_of s in
    let e = loops_of t in
    let none = no_rows_in_cells d e s.access.subscripts t.access.subscripts in
    gained (pair_size m s t) old new (cell_rows s t) equalities
    (same ∙ (sym (append-nil old.rows.items) ∙ ap (λ (xs : List Affine). old.rows.items ++ xs) (sym none)))
    (cells_fit d e m s.access.subscripts t.access.subscripts a.narrow b.narrow)

-- the order
no_rows_in_turns : (n d k : ℕ) → rows_in (equal_turns n d k) ≡ []
no_rows_in_turns n d zero = refl
no_rows_in_turns n d (suc k) =
    rows_in-append (equal_turns n d k) (equal (step n d k) ∷ [])
    ∙ (append-nil (rows_in (equal_turns n d k)) ∙ no_rows_in_turns n d k)

pub turns_gained : (n d k : ℕ) (old new : PairRows)
    → new.equalities.items ≡ old.equalities.items ++ equalities_in (equal_turns n d k) → new.rows.items ≡ old.rows.items
    → GainsTests n old new (equal_turns n d k)
turns_gained n d k old new equalities same =
    let none = no_rows_in_turns n d k in
    gained n old new (equal_turns n d k) equalities
    (same ∙ (sym (append-nil old.rows.items) ∙ ap (λ (xs : List Affine). old.rows.items ++ xs) (sym none)))
    (turns_fit n d k)

pub later_gained : (n d k : ℕ) (old new : PairRows)
    → new.equalities.items ≡ old.equalities.items ++ equalities_in (equal_turns n d k)
    → new.rows.items ≡ old.rows.items ++ difference_of_forms (step n d k) (one_form n) ∷ []
    → GainsTests n old new (equal_turns n d k ++ later_turn n d k ∷ [])
later_gained n d k old new equalities ups =
    let later = difference_of_forms (step n d k) (one_form n) in
    let es : equalities_in (equal_turns n d k ++ later_turn n d k ∷ []) ≡ equalities_in (equal_turns n d k) =
    equalities_in-append (equal_turns n d k) (later_turn n d k ∷ []) ∙ append-nil (equalities_in (equal_turns n d k)) in
    let rs : rows_in (equal_turns n d k ++ later_turn n d k ∷ []) ≡ later ∷ [] =
    rows_in-append (equal_turns n d k) (later_turn n d k ∷ [])
    ∙ ap (λ (xs : List Affine). xs ++ later ∷ []) (no_rows_in_turns n d k) in
    gained n old new (equal_turns n d k ++ later_turn n d k ∷ [])
    (equalities ∙ ap (λ (xs : List Affine). old.equalities.items ++ xs) (sym es))
    (ups ∙ ap (λ (xs : List Affine). old.rows.items ++ xs) (sym rs))
    (later_fits n d k)

-- the parameters
pub ups_fit : (n j m : ℕ) → All (FitsTest n) (map at_least (variables n j m))
ups_fit n j zero = All-nil (FitsTest n)
ups_fit n j (suc m) =
    let v = size-variable n j in
    All-cons (FitsTest n) (at_least (variable n j)) (map at_least (variables n (j + 1) m))
    (record { variables = length-variable n j; numbers = omega arith })
    (ups_fit n (j + 1) m)

pub no_equalities : (fs : List Affine) → equalities_in (map at_least fs) ≡ []
no_equalities [] = refl
no_equalities (f ∷ fs) = no_equalities fs

pub all_rows : (fs : List Affine) → rows_in (map at_least fs) ≡ fs
all_rows [] = refl
all_rows (f ∷ fs) = ap (λ (xs : List Affine). f ∷ xs) (all_rows fs)

pub up_gained : (m : ℕ) (s t : Side) (old new : PairRows) → new.equalities.items ≡ old.equalities.items
    → new.rows.items ≡ old.rows.items ++ variables (pair_size m s t) (loops_of s + loops_of t) m
    → GainsTests (pair_size m s t) old new (parameter_rows m s t)
up_gained m s t old new same ups =
    let n = pair_size m s t in
    let vs = variables n (loops_of s + loops_of t) m in
    gained n old new (parameter_rows m s t)
    (same ∙ (sym (append-nil old.equalities.items)
    ∙ ap (λ (xs : List Affine). old.equalities.items ++ xs) (sym (no_equalities vs))))
    (ups ∙ ap (λ (xs : List Affine). old.rows.items ++ xs) (sym (all_rows vs)))
    (ups_fit n (loops_of s + loops_of t) m)

-- all of them
pub between_shown : (m : ℕ) (s t : Side) (a : After) (r0 r1 r2 r3 : PairRows)
    → ShowsTests (pair_size m s t) r0 (source_rows s t ++ target_rows s t)
    → GainsTests (pair_size m s t) r0 r1 (cell_rows s t) → GainsTests (pair_size m s t) r1 r2 a.rows
    → GainsTests (pair_size m s t) r2 r3 (parameter_rows m s t)
    → ShowsTests (pair_size m s t) r3 (tests_between m s t a)
between_shown m s t a r0 r1 r2 r3 first second third fourth =
    let all = fourth (((source_rows s t ++ target_rows s t) ++ cell_rows s t) ++ a.rows)
    (third ((source_rows s t ++ target_rows s t) ++ cell_rows s t) (second (source_rows s t ++ target_rows s t)
    first)) in
    let u = parameter_rows m s t in
    let same : (((source_rows s t ++ target_rows s t) ++ cell_rows s t) ++ a.rows) ++ u ≡ tests_between m s t a =
    append_assoc ((source_rows s t ++ target_rows s t) ++ cell_rows s t) a.rows u
    ∙ (append_assoc (source_rows s t ++ target_rows s t) (cell_rows s t) (a.rows ++ u)
    ∙ append_assoc (source_rows s t) (target_rows s t) (cell_rows s t ++ (a.rows ++ u))) in
    subst (ShowsTests (pair_size m s t) r3) same all

-- a form of the source, put together
pub spread_put : (d e : ℕ) (cs first second third fourth : List ℤ) → d ≤ length cs → first ≡ []
    → second ≡ first ++ take d cs → third ≡ second ++ zeros e
    → fourth ≡ third ++ take (length cs - d) (drop d cs) → fourth ≡ spread e d cs
spread_put d e cs first second third fourth h begin a b c =
    let rest : take (length cs - d) (drop d cs) ≡ drop d cs =
    ap (λ k. take k (drop d cs)) (sym (length-drop d cs)) ∙ take-length (drop d cs) in
    c ∙ (ap₂ (λ (xs ys : List ℤ). xs ++ ys)
    (b ∙ ap (λ (xs : List ℤ). xs ++ zeros e) (a ∙ ap (λ (xs : List ℤ). xs ++ take d cs) begin)) rest
    ∙ (append_assoc (take d cs) (zeros e) (drop d cs) ∙ sym (spread_parts d e cs h)))

-- parameters behind the turns of a pair
pub up_put : (m : ℕ) (s t : Side) (a b : ℕ) (old new : List Affine) → a ≡ loops_of s → b ≡ loops_of t
    → new ≡ old ++ variables (a + b + m) (a + b) m
    → new ≡ old ++ variables (pair_size m s t) (loops_of s + loops_of t) m
up_put m s t a b old new first second is =
    is ∙ ap₂ (λ (x y : ℕ). old ++ variables (x + y + m) (x + y) m) first second

-- forms of both domains
pub both_put : (s t : Side) (a b : ℕ) (es fs own others start first second : List Affine) → a ≡ loops_of s
    → b ≡ loops_of t
    → es ≡ own → fs ≡ others → start ≡ []
    → first ≡ start ++ map (source_form a b) es → second ≡ first ++ map (target_form a) fs
    → second ≡ map (source_form (loops_of s) (loops_of t)) own ++ map (target_form (loops_of s)) others
both_put s t a b es fs own others start first second sa sb se sf begin one two =
    two ∙ (ap (λ (xs : List Affine). xs ++ map (target_form a) fs) (one ∙ ap (λ (xs : List Affine). xs ++ map
    (source_form a b) es) begin)
    ∙ (ap₂ (λ (xs ys : List Affine). map (source_form a b) xs ++ map (target_form a) ys) se sf
    ∙ ap₂ (λ (x y : ℕ). map (source_form x y) own ++ map (target_form x) others) sa sb))

-- equal subscripts, put together
pub cells_put : (s t : Side) (a b : ℕ) (fs gs old new : List Affine) → a ≡ loops_of s → b ≡ loops_of t
    → fs ≡ s.access.subscripts → gs ≡ t.access.subscripts → new ≡ old ++ equalities_in (same_subscripts a b fs gs)
    → new ≡ old ++ equalities_in (cell_rows s t)
cells_put s t a b fs gs old new sa sb sf sg is =
    is ∙ (ap₂ (λ (x y : ℕ). old ++ equalities_in (same_subscripts x y fs gs)) sa sb
    ∙ ap₂ (λ (xs ys : List Affine). old ++ equalities_in (same_subscripts (loops_of s) (loops_of t) xs ys)) sf sg)

-- how the order goes on from depth to depth
pub depths_step : (m : ℕ) (s t : Side) (c k : ℕ) (earlier : Bool) (out next whole : List Dependence) → k < c
    → out ++ map (dep_of m s t) (afters (pair_size m s t) (loops_of s) k (c - k) earlier) ≡ whole
    → next ≡ out ++ dep_of m s t (order_at (pair_size m s t) (loops_of s) k true) ∷ []
    → next ++ map (dep_of m s t) (afters (pair_size m s t) (loops_of s) (k + 1) (c - (k + 1)) earlier) ≡ whole
depths_step m s t c k earlier out next whole h so_far is =
    let n = pair_size m s t in
    let d = loops_of s in
    let rest = map (dep_of m s t) (afters n d (k + 1) (c - (k + 1)) earlier) in
    let e : c - k ≡ suc (c - (k + 1)) = omega arith in
    let here : map (dep_of m s t) (afters n d k (c - k) earlier) ≡ dep_of m s t (order_at n d k true) ∷ rest =
    ap (λ j. map (dep_of m s t) (afters n d k j earlier)) e in
    ap (λ (xs : List Dependence). xs ++ rest) is
    ∙ (append_assoc out (dep_of m s t (order_at n d k true) ∷ []) rest
    ∙ (ap (λ (xs : List Dependence). out ++ xs) (sym here) ∙ so_far))

-- a domain over m parameters, by the lists that its calls lend
pub domain_sized : (m : ℕ) (own read : Constraints) (es rs : List Affine) → read ≡ own → own.parameters ≡ m
    → es ≡ own.equalities → rs ≡ own.rows
    → All (λ f. variables_of f ≡ read.dimensions + read.parameters) es
    → All (λ f. variables_of f ≡ read.dimensions + read.parameters) rs
    → IsSized (own.dimensions + m) own.equalities own.rows
domain_sized m own read es rs same count se sr a b =
    let n : read.dimensions + read.parameters ≡ own.dimensions + m =
    ap (λ (z : Constraints). z.dimensions + z.parameters) same ∙ ap (λ k. own.dimensions + k) count in
    record {
      equalities_sized = subst (λ (k : ℕ). All (λ f. variables_of f ≡ k) own.equalities) n
          (subst (λ (fs : List Affine). All (λ f. variables_of f ≡ read.dimensions + read.parameters) fs) se a);
      rows_sized = subst (λ (k : ℕ). All (λ f. variables_of f ≡ k) own.rows) n
          (subst (λ (fs : List Affine). All (λ f. variables_of f ≡ read.dimensions + read.parameters) fs) sr b);
    }
