-- The rows of a hull that bound a variable, and what is known within its loop.
use Rattle.scop_syntax.proofs.Common.{◌≡◌, ℕ, zero, suc, ◌+◌, ◌<◌, ℤ, pos, negsuc, List, [], ◌∷◌, ◌++◌, length, take}
use Rattle.scop_syntax.proofs.Common.{get_or, map, refl, sym, ap, subst, ◌∙◌, All, arith, ◌≤ℤ◌, ints, All-append}
use Rattle.scop_syntax.proofs.Common.{All-cons, All-head, All-nil, All-tail, get_or-append_seam, Affine, widened}
use Rattle.scop_syntax.proofs.Common.{mul_one_left}
use Rattle.fractions.specs.Elimination.{coefficient_of}
use Rattle.fm_projection.specs.Alone.{place_form}
use Rattle.fm_projection.proofs.Ranges.{place_value}
use Rattle.fm_projection.proofs.WholePoints.{one_more}
use Rattle.plain_scan.specs.declared.set_outline.Outline.{Outline}
use Rattle.plain_scan.specs.Hulls.{AreHullRows, IsHull, IsHullRow}
use Rattle.plain_scan.specs.steps.Serving.{AllAtLeast}
use Rattle.plain_scan.proofs.CodeBounds.{take_next}
use Rattle.plain_scan.proofs.Pieces.{append_all}
use Rattle.plain_scan.proofs.Rows.{widened_held}
use Rattle.plain_scan.proofs.HullLoops.{own_coefficient}
use Rattle.split_scan.specs.steps.Questions.{AreNatural, IsCut}
use Rattle.split_scan.specs.steps.Copies.{bounding_in, if_bounds}
use Rattle.split_scan.specs.steps.Bounding.{AreBars}
use Rattle.split_scan.proofs.PartLoops.{ends}

-- row by row
bounds_append : (z : ℤ) (f : Affine) (xs ys : List Affine) → if_bounds z f (xs ++ ys) ≡ if_bounds z f xs ++ ys
bounds_append (pos zero) f xs ys = refl
bounds_append (pos (suc n)) f xs ys = refl
bounds_append (negsuc n) f xs ys = refl

bounding_append : (m : ℕ) (fs gs : List Affine) → bounding_in m (fs ++ gs) ≡ bounding_in m fs ++ bounding_in m gs
bounding_append m [] gs = refl
bounding_append m (f ∷ fs) gs =
    ap (if_bounds (coefficient_of m f) f) (bounding_append m fs gs)
    ∙ bounds_append (coefficient_of m f) f (bounding_in m fs) (bounding_in m gs)

pub bounding_next : (m : ℕ) (fs : List Affine) (i : ℕ) (f : Affine) (old new : List Affine) → f ≡ get_or fs i f
    → i < length fs → old ≡ bounding_in m (take i fs) → new ≡ old ++ bounding_in m (f ∷ [])
    → new ≡ bounding_in m (take (i + 1) fs)
bounding_next m fs i f old new is inside h made =
    made ∙ ap (λ (xs : List Affine). xs ++ bounding_in m (f ∷ [])) h ∙ sym (bounding_append m (take i fs) (f ∷ []))
    ∙ ap (bounding_in m) (sym (take_next fs i f is inside))

-- rows that bound are cuts, and rows of the hull
cut_step : (depth m n : ℕ) (os : List Outline) (z : ℤ) (f : Affine) (fs : List Affine) → coefficient_of m f ≡ z
    → IsHullRow depth n os f → All (IsCut m n) fs → All (IsCut m n) (if_bounds z f fs)
cut_step depth m n os (pos zero) f fs e row h = h
cut_step depth m n os (pos (suc k)) f fs e row h =
    All-cons (IsCut m n) f fs
    (record { sized = row.sized; small = row.small; bounds = λ g. omega (arith, ints, e, g) }) h
cut_step depth m n os (negsuc k) f fs e row h =
    All-cons (IsCut m n) f fs
    (record { sized = row.sized; small = row.small; bounds = λ g. omega (arith, ints, e, g) }) h

bounding_cuts : (depth m n : ℕ) (os : List Outline) (fs : List Affine) → AreHullRows depth n os fs
    → All (IsCut m n) (bounding_in m fs)
bounding_cuts depth m n os [] h = All-nil (IsCut m n)
bounding_cuts depth m n os (f ∷ fs) h =
    cut_step depth m n os (coefficient_of m f) f (bounding_in m fs) refl (All-head (IsHullRow depth n os) f fs h)
    (bounding_cuts depth m n os fs (All-tail (IsHullRow depth n os) f fs h))

row_step : (depth n : ℕ) (os : List Outline) (z : ℤ) (f : Affine) (fs : List Affine) → IsHullRow depth n os f
    → AreHullRows depth n os fs → AreHullRows depth n os (if_bounds z f fs)
row_step depth n os (pos zero) f fs row h = h
row_step depth n os (pos (suc k)) f fs row h = All-cons (IsHullRow depth n os) f fs row h
row_step depth n os (negsuc k) f fs row h = All-cons (IsHullRow depth n os) f fs row h

bounding_rows : (depth m n : ℕ) (os : List Outline) (fs : List Affine) → AreHullRows depth n os fs
    → AreHullRows depth n os (bounding_in m fs)
bounding_rows depth m n os [] h = h
bounding_rows depth m n os (f ∷ fs) h =
    row_step depth n os (coefficient_of m f) f (bounding_in m fs) (All-head (IsHullRow depth n os) f fs h)
    (bounding_rows depth m n os fs (All-tail (IsHullRow depth n os) f fs h))

-- those of a hull
pub hull_bars : (depth m n : ℕ) (os : List Outline) (fs gs : List Affine) → m < n → IsHull depth m n os fs
    → gs ≡ bounding_in m fs → AreBars depth m n os gs
hull_bars depth m n os fs gs inside h made =
    let low = place_form n m (pos 1) h.low in
    let high = place_form n m (negsuc 0) h.high in
    let first = ap (λ z. if_bounds z low (bounding_in m (high ∷ h.others))) (own_coefficient n m
    (pos 1) h.low inside) in
    let second = ap (λ z. low ∷ if_bounds z high (bounding_in m h.others))
    (own_coefficient n m (negsuc 0) h.high inside) in
    record {
      low = h.low;
      high = h.high;
      others = bounding_in m h.others;
      is = made ∙ ap (bounding_in m) h.is ∙ first ∙ second;
      cuts = subst (All (IsCut m n)) (sym made) (bounding_cuts depth m n os fs h.rows);
      rows = subst (AreHullRows depth n os) (sym made) (bounding_rows depth m n os fs h.rows);
    }

-- values of a loop whose first row keeps it from being negative
pub natural_inside : (m n : ℕ) (context rows : List Affine) (low : ℤ) (others : List Affine) → m < n
    → rows ≡ place_form n m (pos 1) low ∷ others → low ≤ℤ pos 0
    → AreNatural m context → AreNatural (m + 1) (map (widened m) context ++ rows)
natural_inside m n context rows low others inside is less natural params point range size hold =
    let e = ends point m (let s : length point ≡ suc m = omega (arith, size) in s) in
    let there = subst (AllAtLeast (map (widened m) context ++ rows)) (one_more e.front e.last params)
    (subst (λ xs. AllAtLeast (map (widened m) context ++ rows) (xs ++ params)) e.is hold) in
    let sides = append_all (map (widened m) context) rows (e.front ++ e.last ∷ params) there in
    let outside = natural params e.front range e.size
    (widened_held m context e.front e.last params e.size sides.0) in
    let first = (subst (λ fs. AllAtLeast fs (e.front ++ e.last ∷ params)) is sides.1).0 in
    let v = place_value n m (pos 1) low (e.front ++ e.last ∷ params) inside in
    let x = subst (λ k. get_or (e.front ++ e.last ∷ params) k (pos 0) ≡ e.last) e.size
    (get_or-append_seam e.front e.last params (pos 0)) in
    let o = mul_one_left (get_or (e.front ++ e.last ∷ params) m (pos 0)) in
    let positive : pos 0 ≤ℤ e.last = omega (arith, ints, first, v, x, o, less) in
    subst (All (λ z. pos 0 ≤ℤ z)) (sym e.is) (All-append (λ z. pos 0 ≤ℤ z) e.front (e.last ∷ []) outside
    (All-cons (λ z. pos 0 ≤ℤ z) e.last [] positive (All-nil (λ z. pos 0 ≤ℤ z))))
