-- Forms of a problem, put one behind another; multiples of small forms are never too wide.
use Rattle.dataflow.proofs.Common.{◌≡◌, ℕ, zero, suc, ◌+◌, ◌-◌, ◌^◌, ◌<◌, ◌≤◌, ℤ, pos, negsuc, ◌*ℤ◌, List, [], ◌∷◌}
use Rattle.dataflow.proofs.Common.{◌++◌, set, map, take, drop, get_or, length, refl, sym, ap, ap₂, subst, ◌∙◌, arith}
use Rattle.dataflow.proofs.Common.{add-one, drop-cons, Ok, All, w128, map-append, zeros, multiples, Affine}
use Rattle.dataflow.proofs.Common.{multiple_of_form, composed, fits_iff, length-drop, size, form_size, CanCompose}
use Rattle.dataflow.proofs.Common.{below, all_below, flat, own}
use Rattle.scop_syntax.proofs.Common.{append_assoc, unsigned_abs, take-length, unsigned_abs-mul, fits_signed_from_abs}
use Rattle.wide_math.specs.declared.Op.TheVariants.{Mul}
use Rattle.wide_math.specs.Checked.{product_of}
use Rattle.wide_math.proofs.Steps.{checked-fits}
use Rattle.affine_forms.specs.Runs.{map_run, multiplied_run, scaled_run}
use Rattle.iteration_domains.proofs.Sizes.{size-composed}

-- the opposite of a unit
opposite_zeros : (n : ℕ) → multiples (negsuc 0) (zeros n) ≡ zeros n
opposite_zeros zero = refl
opposite_zeros (suc n) = ap (λ (zs : List ℤ). pos 0 ∷ zs) (opposite_zeros n)

pub opposite_unit : (n j : ℕ) → multiples (negsuc 0) (set (zeros n) j (pos 1)) ≡ set (zeros n) j (negsuc 0)
opposite_unit zero j = refl
opposite_unit (suc n) zero = ap (λ (zs : List ℤ). negsuc 0 ∷ zs) (opposite_zeros n)
opposite_unit (suc n) (suc j) = ap (λ (zs : List ℤ). pos 0 ∷ zs) (opposite_unit n j)

-- one form more of a list that is made place by place
put : (old new whole rest there : List Affine) (f g : Affine) → there ≡ g ∷ rest → old ++ there ≡ whole → f ≡ g
    → new ≡ old ++ f ∷ [] → new ++ rest ≡ whole
put old new whole rest there f g here so_far is pushed =
    ap (λ (gs : List Affine). gs ++ rest) (pushed ∙ ap (λ (h : Affine). old ++ h ∷ []) is)
    ∙ (append_assoc old (g ∷ []) rest ∙ (ap (λ (gs : List Affine). old ++ gs) (sym here) ∙ so_far))

pub below_put : (most : ℤ) (old new whole : List Affine) (f : Affine) (n from step count : ℕ) → step < count
    → old ++ all_below most n (from + step) (count - step) ≡ whole → f ≡ below most n (from + step)
    → new ≡ old ++ f ∷ [] → new ++ all_below most n (from + (step + 1)) (count - (step + 1)) ≡ whole
below_put most old new whole f n from step count h so_far is pushed =
    let e : count - step ≡ suc (count - (step + 1)) = omega arith in
    let g : from + step + 1 ≡ from + (step + 1) = omega arith in
    put old new whole (all_below most n (from + (step + 1)) (count - (step + 1)))
    (all_below most n (from + step) (count - step)) f (below most n (from + step))
    (ap (all_below most n (from + step)) e
    ∙ ap (λ k. below most n (from + step) ∷ all_below most n k (count - (step + 1))) g) so_far is pushed

-- the form at a place of a list, and those behind it
pub forms_at : (fs : List Affine) (i : ℕ) (f : Affine) → f ≡ get_or fs i f → i < length fs
    → drop i fs ≡ f ∷ drop (i + 1) fs
forms_at fs i f found h =
    let first : drop i fs ≡ get_or fs i f ∷ drop (i + 1) fs = rw (add-one, drop-cons fs i f h) refl in
    first ∙ ap (λ (g : Affine). g ∷ drop (i + 1) fs) (sym found)

-- a small composition stays within 2^100
pub composed_small : (n : ℕ) (inner : List Affine) (f : Affine) → CanCompose n inner f
    → form_size (composed f inner n) ≤ 2 ^ 100
composed_small n inner f can =
    let same : unsigned_abs f.constant ≤ unsigned_abs f.constant = omega arith in
    let s = size-composed (length f.coefficients) can.greatest (unsigned_abs f.constant) n inner f
    (record { entries = refl; coefficients = can.entries; constant = same }) in
    let b = can.small in
    omega arith

-- so does its opposite
opposite_fits : (z : ℤ) → unsigned_abs z ≤ 2 ^ 100 → product_of (negsuc 0) z ≡ Ok (negsuc 0 *ℤ z)
opposite_fits z h =
    let m = unsigned_abs-mul (negsuc 0) z in
    checked-fits Mul (negsuc 0) z (negsuc 0 *ℤ z)
    ((fits_iff (negsuc 0 *ℤ z)).1 (fits_signed_from_abs w128 (negsuc 0 *ℤ z) (omega arith)))

opposites_fit : (zs : List ℤ) → size zs ≤ 2 ^ 100 → map_run (product_of (negsuc 0)) zs ≡ Ok (multiples (negsuc 0) zs)
opposites_fit [] h = refl
opposites_fit (z ∷ zs) h = rw (opposite_fits z (omega arith), opposites_fit zs (omega arith)) refl

pub opposite_run : (f : Affine) → form_size f ≤ 2 ^ 100
    → scaled_run (negsuc 0) f ≡ Ok (multiple_of_form (negsuc 0) f)
unfolding scaled_run multiplied_run
opposite_run f h = rw (opposites_fit f.coefficients (omega arith), opposite_fits f.constant (omega arith)) refl

-- equalities as rows, one list behind another
pub flat-append : (fs gs : List Affine) → flat (fs ++ gs) ≡ flat fs ++ flat gs
flat-append [] gs = refl
flat-append (f ∷ fs) gs =
    ap (λ (hs : List Affine). f ∷ multiple_of_form (negsuc 0) f ∷ hs) (flat-append fs gs)

-- what holds for all of a list, at a place
pub one_at : {A : Type 0} (P : A → Type 0) (xs : List A) (i : ℕ) (x : A) → All P xs → x ≡ get_or xs i x
    → i < length xs → P x
one_at P xs i x all found h = subst P (sym found) (all i x h)

-- an equality more, as two rows
pub flat_put : (h : Affine → Affine) (old new whole forms : List Affine) (i : ℕ) (form c : Affine)
    → form ≡ get_or forms i form → i < length forms → old ++ flat (map h (drop i forms)) ≡ whole → c ≡ h form
    → new ≡ old ++ flat (c ∷ []) → new ++ flat (map h (drop (i + 1) forms)) ≡ whole
flat_put h old new whole forms i form c found less so_far is pushed =
    let rest = flat (map h (drop (i + 1) forms)) in
    ap (λ (gs : List Affine). gs ++ rest) (pushed ∙ ap (λ (g : Affine). old ++ flat (g ∷ [])) is)
    ∙ (append_assoc old (flat (h form ∷ [])) rest
    ∙ (ap (λ (gs : List Affine). old ++ flat (map h gs)) (sym (forms_at forms i form found less)) ∙ so_far))

-- lists put one behind another
pub two_put : (x y start first second : List Affine) → start ≡ [] → first ≡ start ++ x → second ≡ first ++ y
    → second ≡ x ++ y
two_put x y start first second a b c = c ∙ ap (λ (zs : List Affine). zs ++ y) (b ∙ ap (λ (zs : List Affine). zs ++ x) a)

pub three_put : (x y z start first second third : List Affine) → start ≡ [] → first ≡ start ++ x → second ≡ first ++ y
    → third ≡ second ++ z → third ≡ x ++ (y ++ z)
three_put x y z start first second third a b c d =
    d ∙ (ap (λ (us : List Affine). us ++ z) (two_put x y start first second a b c) ∙ append_assoc x y z)

-- what a slice from a place on is
rest_is : (k : ℕ) (fs : List Affine) → take (length fs - k) (drop k fs) ≡ drop k fs
rest_is k fs = ap (λ n. take n (drop k fs)) (sym (length-drop k fs)) ∙ take-length (drop k fs)

-- a system's equalities but some, as rows
pub equalities_put : (h : Affine → Affine) (fs : List Affine) (a b : ℕ) (start first second : List Affine)
    → first ≡ start ++ flat (map h (take a fs))
    → second ≡ first ++ flat (map h (take (length fs - (a + b)) (drop (a + b) fs)))
    → second ≡ start ++ flat (map h (own a b fs))
equalities_put h fs a b start first second one two =
    two ∙ (ap₂ (λ (us vs : List Affine). us ++ flat (map h vs)) one (rest_is (a + b) fs)
    ∙ (append_assoc start (flat (map h (take a fs))) (flat (map h (drop (a + b) fs)))
    ∙ ap (λ (us : List Affine). start ++ us)
    (sym (ap flat (map-append h (take a fs) (drop (a + b) fs))
    ∙ flat-append (map h (take a fs)) (map h (drop (a + b) fs))))))
