-- A hull's loop serves its sets one dimension further out; leaves under all their constraints serve them behind the
-- last.
use Rattle.scop_syntax.proofs.Common.{◌≡◌, ℕ, zero, suc, ◌+◌, ◌-◌, ◌<◌, Bool, ℤ, pos, negsuc, List, [], ◌∷◌, ◌++◌}
use Rattle.scop_syntax.proofs.Common.{length, map, inl, inr, refl, ap, subst, sym, ◌∙◌, All, arith, ◌≤ℤ◌}
use Rattle.scop_syntax.proofs.Common.{◌<ℤ◌, ints, get_or-set_same, All-cons, All-head, All-nil, All-tail, zeros, Affine}
use Rattle.scop_syntax.proofs.Common.{value_of, length-zeros}
use Rattle.fractions.specs.Elimination.{coefficient_of}
use Rattle.fm_projection.specs.Alone.{place_form}
use Rattle.fm_projection.proofs.WholePoints.{one_more}
use Rattle.loop_tree.specs.Tree.{Trees}
use Rattle.plain_scan.specs.declared.set_outline.Outline.{Outline}
use Rattle.integer_sets.specs.Scanned.{Scanned}
use Rattle.plain_scan.specs.Sets.{IsKeyOf, Keys, NumbersRise, leaves}
use Rattle.plain_scan.specs.steps.Serving.{AllAtLeast, HaveDimensions, sets_of, AreTested, ServesOn}
use Rattle.scop_syntax.specs.Limits.{AreInRange}
use Rattle.plain_scan.specs.steps.Pieces.{Piece, loops_of, AreEnough, hull_piece}
use Rattle.plain_scan.specs.Hulls.{HoldsAt, IsAlike, IsHull, IsHullRow, AreHullRows, sets_in, own_leaf}
use Rattle.plain_scan.proofs.ConstraintLists.{zeros_of, of_zeros, rows_of, of_rows}
use Rattle.plain_scan.proofs.Nodes.{length_end, tests_hold, hold_tests}
use Rattle.plain_scan.proofs.Pieces.{dimension_serves, end_serves}
use Rattle.loop_tree.specs.Fits.{AreSmallForms, IsSmall}
use Rattle.plain_scan.specs.Outlines.{HasSmallConstraints}
use Rattle.plain_scan.proofs.SortedRows.{lows_are_low, highs_are_high, lows_hold, highs_hold}

-- rows that hold at a key of one of the sets
pub row_holds : (depth place : ℕ) (f : Affine) (o : Outline) → o.set.now.system.dimensions ≡ place + suc depth
    → HoldsAt depth f o
    → (params outer : List ℤ) (x : ℤ) (r : List ℤ) → AreInRange params → length outer ≡ place
    → IsKeyOf params (o.set.now) (outer ++ x ∷ r)
    → pos 0 ≤ℤ value_of f (outer ++ x ∷ params)
row_holds depth place f o dims h params outer x r range size k =
    let n : length (outer ++ x ∷ []) ≡ suc place = length_end outer x ∙ ap suc size in
    subst (λ (q : List ℤ). pos 0 ≤ℤ value_of f q) (one_more outer x params)
    (h params (outer ++ x ∷ []) r range (omega (arith, n, dims))
    (subst (IsKeyOf params o.set.now) (sym (one_more outer x r)) k))

key_holds : (depth place : ℕ) (f : Affine) (os : List Outline)
    → All (λ o. o.set.now.system.dimensions ≡ place + suc depth) os → All (HoldsAt depth f) os
    → (params outer : List ℤ) (x : ℤ) (r : List ℤ) → AreInRange params → length outer ≡ place
    → Keys (sets_in os) params (outer ++ x ∷ r)
    → pos 0 ≤ℤ value_of f (outer ++ x ∷ params)
key_holds depth place f [] dims h params outer x r range size k = absurd k
key_holds depth place f (o ∷ os) dims h params outer x r range size (inl k) =
    row_holds depth place f o (All-head (λ o. o.set.now.system.dimensions ≡ place + suc depth) o os dims)
    (All-head (HoldsAt depth f) o os h) params outer x r range size k
key_holds depth place f (o ∷ os) dims h params outer x r range size (inr k) =
    key_holds depth place f os (All-tail (λ o. o.set.now.system.dimensions ≡ place + suc depth) o os dims)
    (All-tail (HoldsAt depth f) o os h) params outer x r range size k

pub keys_hold : (depth place n : ℕ) (os : List Outline) (fs : List Affine)
    → All (λ o. o.set.now.system.dimensions ≡ place + suc depth) os → AreHullRows depth n os fs
    → (params outer : List ℤ) (x : ℤ) (r : List ℤ) → AreInRange params → length outer ≡ place
    → Keys (sets_in os) params (outer ++ x ∷ r)
    → AllAtLeast fs (outer ++ x ∷ params)
keys_hold depth place n os [] dims h params outer x r range size k = tt
keys_hold depth place n os (f ∷ fs) dims h params outer x r range size k = (
  key_holds depth place f os dims (All-head (IsHullRow depth n os) f fs h).holds params outer x r range size k,
  keys_hold depth place n os fs dims (All-tail (IsHullRow depth n os) f fs h) params outer x r range size k,
)

pub own_coefficient : (n place : ℕ) (k c : ℤ) → place < n → coefficient_of place (place_form n place k c) ≡ k
own_coefficient n place k c inside = get_or-set_same (zeros n) place k (pos 0) (omega (arith, inside, length-zeros n))

pub hull_step : (depth place n : ℕ) (os : List Outline) (fs : List Affine) (h : IsHull depth place n os fs) → place < n
    → All (λ o. o.set.now.system.dimensions ≡ place + suc depth) os → (parallel : Bool) (body : Trees)
    → ServesOn depth (suc place) (sets_in os) [] body
    → ServesOn (suc depth) place (sets_in os) [] (loops_of place (hull_piece depth place n os fs h parallel body ∷ []))
hull_step depth place n os fs h inside dims parallel body serves =
    dimension_serves depth place (sets_in os) [] (p ∷ []) (piece, (λ params outer at x y a b. absurd b), tt) enough
  where
    p : Piece
    p = hull_piece depth place n os fs h parallel body

    above : pos 0 <ℤ coefficient_of place (place_form n place (pos 1) h.low)
    above = let e = own_coefficient n place (pos 1) h.low inside in omega (arith, ints, e)

    below : coefficient_of place (place_form n place (negsuc 0) h.high) <ℤ pos 0
    below = let e = own_coefficient n place (negsuc 0) h.high inside in omega (arith, ints, e)

    piece : Rattle.plain_scan.specs.steps.Pieces.IsPiece depth place (sets_in os) [] p
    piece = record {
      low = (above, lows_are_low place h.others);
      high = (below, highs_are_high place h.others);
      serves = λ params outer at. serves params outer (record {
        parameters = at.parameters;
        size = at.size;
        inside =
            tt;
      });
      none_new = λ params outer at x r lies k. k;
      none_lost = λ params outer at x r lies k. k;
    }

    enough : AreEnough place (sets_in os) [] (p ∷ [])
    enough params outer at x r k =
        let all = subst (λ gs. AllAtLeast gs (outer ++ x ∷ params)) h.is (keys_hold depth place n os fs dims h.rows
        params outer x r at.parameters at.size k) in
        let point = outer ++ x ∷ params in
        inl (record {
          tests = tt;
          lows = (all.0, lows_hold place h.others point all.1.1);
          highs = (all.1.0, highs_hold place h.others point all.1.1);
        })

-- behind the last loop each set's constraints are tests
own_tested : (sets : List Scanned) (point : List ℤ)
    → AreTested (map own_leaf sets) point
own_tested [] point = tt
own_tested (s ∷ sets) point = (
  λ e. let t = tests_hold s.system.equalities s.system.rows point e in
      (of_zeros s.system.equalities point t.0, of_rows s.system.rows point t.1),
  (λ h. hold_tests s.system.equalities s.system.rows point (zeros_of s.system.equalities point h.0)
      (rows_of s.system.rows point h.1)),
  own_tested sets point,
)

own_sets : (sets : List Scanned) → sets_of (map own_leaf sets) ≡ sets
own_sets [] = refl
own_sets (s ∷ sets) = ap (λ (rest : List Scanned). s ∷ rest) (own_sets sets)

pub own_end : (m : ℕ) (sets : List Scanned) → HaveDimensions m sets → NumbersRise sets
    → ServesOn zero m sets [] (leaves (map own_leaf sets))
own_end m sets sized rise =
    let e = own_sets sets in
    subst (λ ss. ServesOn zero m ss [] (leaves (map own_leaf sets))) e
    (end_serves m (map own_leaf sets) [] (subst (HaveDimensions m) (sym e) sized)
    (subst NumbersRise (sym e) rise)
    (λ params outer at. own_tested sets (outer ++ params)))

pub dims_in : (n : ℕ) (os : List Outline) → All (λ o. o.set.now.system.dimensions ≡ n) os
    → HaveDimensions n (sets_in os)
dims_in n [] h = tt
dims_in n (o ∷ os) h = (
  All-head (λ o. o.set.now.system.dimensions ≡ n) o os h,
  dims_in n os
      (All-tail (λ o. o.set.now.system.dimensions ≡ n) o os h),
)

-- the numbers of the sets of outlines are small
pub sets_are_small : (os : List Outline) → All (λ s. HasSmallConstraints s.system) (sets_in os)
sets_are_small [] = All-nil (λ s. HasSmallConstraints s.system)
sets_are_small (o ∷ os) =
    All-cons (λ s. HasSmallConstraints s.system) o.set.now (sets_in os) o.are.small (sets_are_small os)

pub alike_of : (depth place p n : ℕ) (o : Outline) → o.set.now.system.dimensions ≡ n → o.set.now.system.parameters ≡ p
    → depth < n
    → place ≡ n - 1 - depth → IsAlike depth (place + 1 + p) o
alike_of depth place p n o dims params less at =
    let count = o.are.count in
    record { inside = omega (arith, count, dims, less); count = omega (arith, dims, params, less, at) }

pub small_forms : (fs : List Affine) → All IsSmall fs → AreSmallForms fs
small_forms [] h = tt
small_forms (f ∷ fs) h = (All-head IsSmall f fs h, small_forms fs (All-tail IsSmall f fs h))
