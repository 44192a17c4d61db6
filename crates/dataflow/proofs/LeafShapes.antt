-- The equalities and rows of a leaf as the code puts them together, and how many variables they have.
use Rattle.dataflow.proofs.Common.{◌≡◌, ℕ, suc, ◌+◌, ◌≤◌, negsuc, List, [], ◌∷◌, ◌++◌, length, map, ap, ap₂, subst, sym}
use Rattle.dataflow.proofs.Common.{◌∙◌, refl, arith, All, neg_ℤ, All-nil, All-cons, All-head, All-tail, All-append}
use Rattle.dataflow.proofs.Common.{Affine, complement, multiple_of_form, length-multiples, Constraints, variables_in}
use Rattle.dataflow.proofs.Common.{equalities_in, variable, IsNarrow, Turn, up, down, bound, binds_in, AreOver, Side}
use Rattle.dataflow.proofs.Common.{loops_of, source_form, target_form, same_subscripts, width, placed, bound_form}
use Rattle.dataflow.proofs.Common.{bind_begins, bind_ends, path_rows, turn_equality, turn_equalities, first_form}
use Rattle.dataflow.proofs.Common.{second_form, CanPlace}
use Rattle.scop_syntax.proofs.Common.{append_assoc, length-sums}
use Rattle.iteration_domains.specs.Parts.{variables_of}
use Rattle.iteration_domains.proofs.Surroundings.{length-variable}
use Rattle.conflict_deps.specs.Conflicts.{difference_of_forms}
use Rattle.conflict_deps.proofs.Shapes.{length-source, length-target, length-difference, size-source}
use Rattle.dataflow.specs.steps.LeafSteps.{IsSmall}
use Rattle.dataflow.specs.declared.leaf_rows.Layout.{Layout}
use Rattle.dataflow.proofs.LeafForms.{length-placed}

-- forms of the target, first with binds behind its turns and then behind the source's turns
pub both_mapped : (d e k : ℕ) (fs : List Affine)
    → map (target_form d) (map (source_form e k) fs) ≡ map (λ f. target_form d (source_form e k f)) fs
both_mapped d e k [] = refl
both_mapped d e k (f ∷ fs) =
    ap (λ (gs : List Affine). target_form d (source_form e k f) ∷ gs) (both_mapped d e k fs)

pub both_put : (d e k : ℕ) (fs gs old first wide second : List Affine)
    → first ≡ old ++ map (source_form d (e + k)) fs → wide ≡ map (source_form e k) gs
    → second ≡ first ++ map (target_form d) wide
    → second ≡ old ++ (map (source_form d (e + k)) fs ++ map (λ f. target_form d (source_form e k f)) gs)
both_put d e k fs gs old first wide second one is two =
    two ∙ (ap₂ (λ (xs ys : List Affine). xs ++ map (target_form d) ys) one is
    ∙ (ap (λ (ys : List Affine). (old ++ map (source_form d (e + k)) fs) ++ ys) (both_mapped d e k gs)
    ∙ append_assoc old (map (source_form d (e + k)) fs) (map (λ f. target_form d (source_form e k f)) gs)))

-- those of the two ends, whose numbers of loops the code has read
pub both_shown : (k a b : ℕ) (s t : Side) (fs gs own others old new : List Affine) → a ≡ loops_of s → b ≡ loops_of t
    → fs ≡ own → gs ≡ others
    → new ≡ old ++ (map (source_form a (b + k)) fs ++ map (λ f. target_form a (source_form b k f)) gs)
    → new ≡ old ++ (map (first_form k s t) own ++ map (second_form k s t) others)
both_shown k a b s t fs gs own others old new sa sb sf sg put =
    put
    ∙ (ap₂ (λ (xs ys : List Affine). old
    ++ (map (source_form a (b + k)) xs ++ map (λ f. target_form a (source_form b k f)) ys)) sf sg
    ∙ ap₂ (λ (x y : ℕ). old
    ++ (map (source_form x (y + k)) own ++ map (λ f. target_form x (source_form y k f)) others)) sa sb)

-- a narrow form stays narrow with binds put in
pub narrow_bound : (e k m : ℕ) (fs : List Affine) → All (IsNarrow (e + m)) fs
    → All (IsNarrow (e + k + m)) (map (source_form e k) fs)
narrow_bound e k m [] h = All-nil (IsNarrow (e + k + m))
narrow_bound e k m (f ∷ fs) h =
    let own = All-head (IsNarrow (e + m)) f fs h in
    let small = own.numbers in
    let less = size-source e k f in
    All-cons (IsNarrow (e + k + m)) (source_form e k f) (map (source_form e k) fs)
    (record { variables = length-source e k m f own.variables; numbers = omega (arith, small, less) })
    (narrow_bound e k m fs (All-tail (IsNarrow (e + m)) f fs h))

-- the forms are over n variables
abbrev pub AreSized : ℕ → List Affine → Type 0
AreSized n fs = All (λ f. variables_of f ≡ n) fs

pub first_sized : (d e k m : ℕ) (fs : List Affine) → AreSized (d + m) fs
    → AreSized (d + e + k + m) (map (source_form d (e + k)) fs)
first_sized d e k m [] h = All-nil (λ f. variables_of f ≡ d + e + k + m)
first_sized d e k m (f ∷ fs) h =
    let l = length-source d (e + k) m f (All-head (λ f. variables_of f ≡ d + m) f fs h) in
    All-cons (λ f. variables_of f ≡ d + e + k + m) (source_form d (e + k) f) (map (source_form d (e + k)) fs)
    (omega (arith, l)) (first_sized d e k m fs (All-tail (λ f. variables_of f ≡ d + m) f fs h))

pub second_sized : (d e k m : ℕ) (fs : List Affine) → AreSized (e + m) fs
    → AreSized (d + e + k + m) (map (λ f. target_form d (source_form e k f)) fs)
second_sized d e k m [] h = All-nil (λ f. variables_of f ≡ d + e + k + m)
second_sized d e k m (f ∷ fs) h =
    let s = length-source e k m f (All-head (λ f. variables_of f ≡ e + m) f fs h) in
    let l = length-target d (e + k) m (source_form e k f) s in
    All-cons (λ f. variables_of f ≡ d + e + k + m) (target_form d (source_form e k f))
    (map (λ f. target_form d (source_form e k f)) fs) (omega (arith, l))
    (second_sized d e k m fs (All-tail (λ f. variables_of f ≡ e + m) f fs h))

pub cells_sized : (d e k m : ℕ) (fs gs : List Affine) → All (IsNarrow (d + m)) fs → All (IsNarrow (e + m)) gs
    → AreSized (d + e + k + m) (equalities_in (same_subscripts d (e + k) fs (map (source_form e k) gs)))
cells_sized d e k m [] gs a b = All-nil (λ f. variables_of f ≡ d + e + k + m)
cells_sized d e k m (f ∷ fs) [] a b = All-nil (λ f. variables_of f ≡ d + e + k + m)
cells_sized d e k m (f ∷ fs) (g ∷ gs) a b =
    let n = d + (e + k) + m in
    let first = length-source d (e + k) m f (All-head (IsNarrow (d + m)) f fs a).variables in
    let inner = length-source e k m g (All-head (IsNarrow (e + m)) g gs b).variables in
    let second = length-target d (e + k) m (source_form e k g) inner in
    let l = length-difference n (source_form d (e + k) f) (target_form d (source_form e k g)) first second in
    All-cons (λ h. variables_of h ≡ d + e + k + m)
    (difference_of_forms (source_form d (e + k) f) (target_form d (source_form e k g)))
    (equalities_in (same_subscripts d (e + k) fs (map (source_form e k) gs))) (omega (arith, l))
    (cells_sized d e k m fs gs (All-tail (IsNarrow (d + m)) f fs a) (All-tail (IsNarrow (e + m)) g gs b))

-- the rows of a leaf
opposite_sized : (l : Layout) (f : Affine) → CanPlace l f.coefficients
    → variables_of (multiple_of_form (negsuc 0) (placed l f)) ≡ width l
opposite_sized l f can =
    length-multiples (negsuc 0) (placed l f).coefficients ∙ length-placed l f.coefficients can

pub turns_sized : (l : Layout) (j : ℕ) (fs : List Affine) → All (λ f. CanPlace l f.coefficients) fs
    → AreSized (width l) (turn_equalities l j fs)
turns_sized l j [] h = All-nil (λ f. variables_of f ≡ width l)
turns_sized l j (f ∷ fs) h =
    let can = All-head (λ f. CanPlace l f.coefficients) f fs h in
    let unit = length-variable (width l) j in
    All-cons (λ f. variables_of f ≡ width l) (turn_equality l j f) (turn_equalities l (suc j) fs)
    (length-sums (variable (width l) j).coefficients (multiple_of_form (negsuc 0) (placed l f)).coefficients
    (unit ∙ sym (opposite_sized l f can)) ∙ unit)
    (turns_sized l (suc j) fs (All-tail (λ f. CanPlace l f.coefficients) f fs h))

-- forms over what stands at a place of a path can be placed
pub can_place : (l : Layout) (k : ℕ) (f : Affine) → IsSmall l → length f.coefficients ≡ l.parameters + l.turns + k
    → k ≤ l.binds → CanPlace l f.coefficients
can_place l k f small size less =
    record { small = small; least = omega (arith, size); most = omega (arith, size, less) }

pub path_sized : (l : Layout) (k : ℕ) (ts : List Turn) → IsSmall l → AreOver (l.parameters + l.turns + k) ts
    → k + binds_in ts ≤ l.binds → AreSized (width l) (path_rows l k ts)
path_sized l k [] small over less = All-nil (λ f. variables_of f ≡ width l)
path_sized l k (up f ∷ ts) small over less =
    let can = can_place l k f small over.0 (omega (arith, less)) in
    All-cons (λ f. variables_of f ≡ width l) (placed l f) (path_rows l k ts) (length-placed l f.coefficients can)
    (path_sized l k ts small over.1 less)
path_sized l k (down f ∷ ts) small over less =
    let can = can_place l k f small over.0 (omega (arith, less)) in
    All-cons (λ f. variables_of f ≡ width l) (complement (placed l f)) (path_rows l k ts)
    (opposite_sized l f can) (path_sized l k ts small over.1 less)
path_sized l k (bound f d ∷ ts) small over less =
    let P : Affine → Type 0 = λ f. variables_of f ≡ width l in
    let can = can_place l k f small over.0 (omega (arith, less)) in
    let own = length-placed l f.coefficients can in
    let place = l.before + (l.turns + (l.behind + k)) in
    let unit = length-variable (width l) place in
    let low = length-multiples (neg_ℤ d) (bound_form l k).coefficients ∙ unit in
    let high = length-multiples d (bound_form l k).coefficients ∙ unit in
    let begins : variables_of (bind_begins l k f d) ≡ width l =
    length-sums (placed l f).coefficients (multiple_of_form (neg_ℤ d) (bound_form l k)).coefficients (own ∙ sym low) ∙ own
    in
    let ends : variables_of (bind_ends l k f d) ≡ width l =
    length-sums (multiple_of_form d (bound_form l k)).coefficients
    (multiple_of_form (negsuc 0) (placed l f)).coefficients (high ∙ sym (opposite_sized l f can)) ∙ high in
    let wider : suc (l.parameters + l.turns + k) ≡ l.parameters + l.turns + suc k = omega arith in
    All-cons P (bind_begins l k f d) (bind_ends l k f d ∷ path_rows l (suc k) ts) begins
    (All-cons P (bind_ends l k f d) (path_rows l (suc k) ts) ends
    (path_sized l (suc k) ts small (subst (λ n. AreOver n ts) wider over.2) (omega (arith, less))))

-- forms over all that is bound can be placed
pub all_placed : (l : Layout) (fs : List Affine) → IsSmall l
    → All (λ f. length f.coefficients ≡ l.parameters + l.turns + l.binds) fs → All (λ f. CanPlace l f.coefficients) fs
all_placed l [] small h = All-nil (λ f. CanPlace l f.coefficients)
all_placed l (f ∷ fs) small h =
    let P : Affine → Type 0 = λ f. length f.coefficients ≡ l.parameters + l.turns + l.binds in
    All-cons (λ f. CanPlace l f.coefficients) f fs
    (can_place l l.binds f small (All-head P f fs h) (omega arith)) (all_placed l fs small (All-tail P f fs h))

-- the forms of an end's domain
pub end_sized : (m : ℕ) (domain found : Constraints) (forms own : List Affine) → found ≡ domain → domain.parameters ≡ m
    → forms ≡ own → AreSized (variables_in found) forms → AreSized (domain.dimensions + m) own
end_sized m domain found forms own is count same sized =
    let size : variables_in found ≡ domain.dimensions + m =
    ap variables_in is ∙ ap (λ n. domain.dimensions + n) count in
    subst (λ n. AreSized n own) size (subst (AreSized (variables_in found)) same sized)

-- the whole of them: both ends' forms, and two lists more
pub parts_sized : (n d e k m : ℕ) (fs gs c r whole : List Affine) → n ≡ d + e + k + m → AreSized (d + m) fs
    → AreSized (e + m) gs → AreSized n c → AreSized (d + e + k + m) r
    → whole ≡ map (source_form d (e + k)) fs ++ (map (λ f. target_form d (source_form e k f)) gs ++ (c ++ r))
    → AreSized n whole
parts_sized n d e k m fs gs c r whole is hf hg hc hr shown =
    let P : Affine → Type 0 = λ f. variables_of f ≡ d + e + k + m in
    let first = map (source_form d (e + k)) fs in
    let second = map (λ f. target_form d (source_form e k f)) gs in
    let own : AreSized (d + e + k + m) (first ++ (second ++ (c ++ r))) =
    All-append P first (second ++ (c ++ r)) (first_sized d e k m fs hf)
    (All-append P second (c ++ r) (second_sized d e k m gs hg)
    (All-append P c r (subst (λ i. AreSized i c) is hc) hr)) in
    subst (λ i. AreSized i whole) (sym is) (subst (AreSized (d + e + k + m)) (sym shown) own)

-- four parts, one behind another
pub parts_put : (a b c d s0 s1 s2 s3 : List Affine) → s0 ≡ [] → s1 ≡ s0 ++ (a ++ b) → s2 ≡ s1 ++ c
    → s3 ≡ s2 ++ d → s3 ≡ a ++ (b ++ (c ++ d))
parts_put a b c d s0 s1 s2 s3 h0 h1 h2 h3 =
    let one : s1 ≡ a ++ b = h1 ∙ ap (λ (xs : List Affine). xs ++ (a ++ b)) h0 in
    h3 ∙ (ap (λ (xs : List Affine). xs ++ d) (h2 ∙ ap (λ (xs : List Affine). xs ++ c) one)
    ∙ (append_assoc (a ++ b) c d ∙ append_assoc a b (c ++ d)))
