-- A loop whose turns are taken so many at once, and the loop over blocks that it gives way to.
use Rattle.tree_simplification.proofs.Common.{◌≡◌, ℕ, zero, suc, ◌+◌, ◌-◌, ◌^◌, ◌≤◌, ◌<◌, Bool, true, false, ℤ, pos}
use Rattle.tree_simplification.proofs.Common.{List, [], ◌∷◌, ◌++◌, inl, inr, length, map, get_or, ap, ap₂, subst, sym}
use Rattle.tree_simplification.proofs.Common.{◌∙◌, refl, arith, length-append, ◌↔◌, All, neg_ℤ, unsigned_abs, ◌+ℤ◌}
use Rattle.tree_simplification.proofs.Common.{◌-ℤ◌, ◌*ℤ◌, ◌≤ℤ◌, ints, map-append, All-cons, All-nil, get_or-append_seam}
use Rattle.tree_simplification.proofs.Common.{Affine, value_of, values_of, widened, le_or_lt, mul_positive}
use Rattle.tree_simplification.proofs.Common.{mul_comm_int, mul_distrib_left, mul_one_left, mul_one_right, abs_at_most}
use Rattle.tree_simplification.proofs.Common.{Program, append_assoc, FitsAll, AreBounds, FlatAll, AreFree, Conflict}
use Rattle.tree_simplification.proofs.Common.{Within, AreSerial, BoundsAreOver, BoundsAreUpTo, IsOver, IsOverUpTo}
use Rattle.tree_simplification.proofs.Common.{NestAllTo, TreesAreOf, TreesAreOver, TreesAreUpTo, Bound, Bounds}
use Rattle.tree_simplification.proofs.Common.{bounds_of, only, besides, loop, Trees, none, more, Visit, along, lower}
use Rattle.tree_simplification.proofs.Common.{upper, walk_all, shown, StayWithin, OnSide, parts, sign_of, AreNear}
use Rattle.tree_simplification.proofs.Common.{AreTestsOf, Inlines, IsPlace, bounds_over, side_tests, joined, AreEnds}
use Rattle.tree_simplification.proofs.Common.{AreTestsAt, InlinesAt, block, blocks, masked, turn_form}
use Rattle.scop_syntax.proofs.Common.{length-set, zeros, dot-set_left, dot-zeros, get_or-zeros, length-zeros, mul_le}
use Rattle.scop_syntax.proofs.Common.{mul_le_turned, mul_assoc_int, mul_distrib_right}
use Rattle.loop_tree.specs.Tree.{Test}
use Rattle.tree_simplification.proofs.Blocks.{AreBlocksOf, along_next, blockwise}
use Rattle.tree_simplification.proofs.ComposedForms.{bounds_fit_near, bounds_flat, bounds_sized, lower_over, near_more}
use Rattle.tree_simplification.proofs.ComposedForms.{near_size, place_sized, place_values, upper_over}
use Rattle.tree_simplification.proofs.Contexts.{high_from, high_to, low_from, low_to}
use Rattle.tree_simplification.proofs.InlinedNodes.{shown_loop}
use Rattle.tree_simplification.proofs.InnerForms.{all_widened}
use Rattle.tree_simplification.proofs.JoinedTrees.{fits_joined, flat_joined, free_joined, nested_joined, of_joined}
use Rattle.tree_simplification.proofs.JoinedTrees.{over_joined, serial_joined, small_joined, walk_joined}
use Rattle.tree_simplification.proofs.Walks.{between_same}

-- a part of the bounds of blocks, at a block's number
part_same : (b : Bound) (by at : ℕ) (point : List ℤ) (q : ℤ)
    → value_of (block by at b).form point -ℤ (q *ℤ (block by at b).divisor)
    ≡ value_of b.form point -ℤ (((pos by *ℤ q) +ℤ pos at) *ℤ b.divisor)
part_same b by at point q =
    let d = b.divisor in
    let c = mul_comm_int d (pos at) in
    let r = mul_distrib_right (pos by *ℤ q) (pos at) d in
    let a = mul_assoc_int (pos by) q d in
    let e = mul_assoc_int q d (pos by) in
    let f = mul_comm_int (q *ℤ d) (pos by) in
    omega (arith, ints, c, r, a, e, f)

on_blocks : (turned : Bool) (by at : ℕ) (bs : Bounds) (point : List ℤ) (q : ℤ)
    → OnSide turned (parts (blocks by at bs)) point q ↔ OnSide turned (parts bs) point ((pos by *ℤ q) +ℤ pos at)
on_blocks turned by at (only b) point q = (
  (λ on. (subst (λ (z : ℤ). pos 0 ≤ℤ (sign_of turned *ℤ z)) (part_same b by at point q) on.0, tt)),
  (λ on. (subst (λ (z : ℤ). pos 0 ≤ℤ (sign_of turned *ℤ z)) (sym (part_same b by at point q)) on.0, tt)),
)
on_blocks turned by at (besides b bs) point q =
    let rest = on_blocks turned by at bs point q in (
      (λ on. (
        subst (λ (z : ℤ). pos 0 ≤ℤ (sign_of turned *ℤ z)) (part_same b by at point q) on.0,
        rest.0 on.1,
      )),
      (λ on. (
        subst (λ (z : ℤ). pos 0 ≤ℤ (sign_of turned *ℤ z)) (sym (part_same b by at point q)) on.0,
        rest.1 on.1,
      )),
    )

blocks_flat : (by at : ℕ) (bs : Bounds) → 0 < by → AreBounds bs → AreBounds (blocks by at bs)
blocks_flat by at (only b) some h = mul_positive b.divisor (pos by) h (omega (arith, ints))
blocks_flat by at (besides b bs) some h =
    (mul_positive b.divisor (pos by) h.0 (omega (arith, ints)), blocks_flat by at bs some h.1)

-- bounds of blocks are over as many variables
pub blocks_over : (n by at : ℕ) (bs : Bounds) → BoundsAreOver n bs → BoundsAreOver n (blocks by at bs)
blocks_over n by at (only b) h = h
blocks_over n by at (besides b bs) h = (h.0, blocks_over n by at bs h.1)

-- bounds as a first one and others
pub blocks_of : (by at : ℕ) (b : Bound) (bs : List Bound)
    → bounds_of (block by at b) (map (block by at) bs) ≡ blocks by at (bounds_of b bs)
blocks_of by at b [] = refl
blocks_of by at b (c ∷ bs) = ap (λ (cs : Bounds). besides (block by at b) cs) (blocks_of by at c bs)

pub up_to_parts : (n : ℕ) (b : Bound) (bs : List Bound) → BoundsAreUpTo n (bounds_of b bs)
    → IsOverUpTo n b.form b.divisor × All (λ c. IsOverUpTo n c.form c.divisor) bs
up_to_parts n b [] h = (h, All-nil (λ (c : Bound). IsOverUpTo n c.form c.divisor))
up_to_parts n b (c ∷ bs) h =
    let r = up_to_parts n c bs h.1 in (h.0, All-cons (λ (c : Bound). IsOverUpTo n c.form c.divisor) c bs r.0 r.1)

pub length_turn : (n k by at : ℕ) → IsOver n (turn_form n k by at)
length_turn n k by at = length-set (zeros n) k (pos by) ∙ length-zeros n

-- tests and bounds whose parts are named in another way
pub tests_named : (n i : ℕ) (forms others : List Affine) (lo up low high : Bounds) (f g : Affine) (tests : List Test)
    → i ≡ n → g ≡ f → others ≡ forms → AreEnds n others lo up low high
    → AreTestsOf i (side_tests true f (parts low) ++ side_tests false f (parts high)) tests
    → AreTestsAt n forms lo up g tests
tests_named n i forms others lo up low high f g tests a b e ends are =
    subst (λ (h : Affine). AreTestsAt n forms lo up h tests) (sym b)
    (subst (λ (fs : List Affine). AreTestsAt n fs lo up f tests) e
    (subst (λ (bs : Bounds). AreTestsOf n
    (side_tests true f (parts bs) ++ side_tests false f (parts (bounds_over false n others up))) tests) ends.lower
    (subst (λ (bs : Bounds). AreTestsOf n (side_tests true f (parts low) ++ side_tests false f (parts bs)) tests)
    ends.upper
    (subst (λ j. AreTestsOf j (side_tests true f (parts low) ++ side_tests false f (parts high)) tests) a are))))

pub ends_named : (n : ℕ) (forms others : List Affine) (lo up first last low high : Bounds) → others ≡ forms
    → first ≡ lo → last ≡ up → AreEnds n others first last low high → AreEnds n forms lo up low high
ends_named n forms others lo up first last low high e a b ends =
    subst (λ (fs : List Affine). AreEnds n fs lo up low high) e
    (subst (λ (bs : Bounds). AreEnds n others bs up low high) a
    (subst (λ (bs : Bounds). AreEnds n others first bs low high) b ends))

-- the loop over blocks runs over those that have values of the loop's
block_range : (by : ℕ) (lo up : Bounds) (point : List ℤ) → 0 < by → AreBounds lo → AreBounds up
    → AreBlocksOf by (lower lo point) (upper up point) (lower (blocks by (by - 1) lo) point)
    (upper (blocks by 0 up) point)
block_range by lo up point some flat_low flat_high =
    let at = by - 1 in
    let low = blocks by at lo in
    let high = blocks by 0 up in
    let fl = blocks_flat by at lo some flat_low in
    let fh = blocks_flat by 0 up some flat_high in
    let e : pos at ≡ pos by -ℤ pos 1 = omega (arith, ints) in
    record {
      above = λ q h.
          let k = low_from lo point ((pos by *ℤ q) +ℤ pos at) flat_low
          ((on_blocks true by at lo point q).0 (low_to low point q fl h)) in
          omega (arith, ints, e, k);
      from = λ q h.
          low_from low point q fl
          ((on_blocks true by at lo point q).1
          (low_to lo point ((pos by *ℤ q) +ℤ pos at) flat_low (omega (arith, ints, e, h))));
      below = λ q h.
          let k = high_from up point ((pos by *ℤ q) +ℤ pos 0) flat_high
          ((on_blocks false by 0 up point q).0 (high_to high point q fh h)) in
          omega (arith, ints, k);
      to = λ q h.
          high_from high point q fh
          ((on_blocks false by 0 up point q).1
          (high_to up point ((pos by *ℤ q) +ℤ pos 0) flat_high (omega (arith, ints, h))));
    }

-- a block's number is small where the loop's first and last value are
block_small : (by : ℕ) (first last low high q : ℤ) → 0 < by → AreBlocksOf by first last low high
    → neg_ℤ (pos (2 ^ 40)) ≤ℤ first → last ≤ℤ pos (2 ^ 40) → low ≤ℤ q → q ≤ℤ high → unsigned_abs q ≤ 2 ^ 40
block_small by first last low high q some are small_first small_last a b =
    abs_at_most q (2 ^ 40) bottom top
  where
    bottom : neg_ℤ (pos (2 ^ 40)) ≤ℤ q
    bottom = elim (le_or_lt (neg_ℤ (pos (2 ^ 40))) q) [
      | inl h ↦ h
      | inr h ↦
          let k = are.above q a in
          let m = mul_le_turned (pos 1) (pos by) (q +ℤ pos 1) (omega (arith, ints)) (omega (arith, ints, h)) in
          let d = mul_distrib_left q (pos 1) (pos by) in
          let o = mul_one_right (pos by) in
          let i = mul_one_left (q +ℤ pos 1) in
          absurd (omega (arith, ints, k, m, d, o, i, h, small_first))
    ]

    top : q ≤ℤ pos (2 ^ 40)
    top = elim (le_or_lt q (pos (2 ^ 40))) [
      | inl h ↦ h
      | inr h ↦
          let k = are.below q b in
          let m = mul_le (pos 1) (pos by) q (omega (arith, ints)) (omega (arith, ints, h)) in
          let i = mul_one_left q in
          absurd (omega (arith, ints, k, m, i, h, small_last))
    ]

-- the form of a value of a block
turn_value : (m k by at : ℕ) (outer params : List ℤ) (q : ℤ) → length outer ≡ k
    → value_of (turn_form (k + 1 + m) k by at) ((outer ++ q ∷ []) ++ params) ≡ (pos by *ℤ q) +ℤ pos at
turn_value m k by at outer params q o =
    let n = k + 1 + m in
    let point = (outer ++ q ∷ []) ++ params in
    let inside : k < length (zeros n) = omega (arith, length-zeros n) in
    let moved = dot-set_left (zeros n) point k (pos by) inside in
    let nothing = dot-zeros n point in
    let entry = get_or-zeros n k in
    let own : get_or point k (pos 0) ≡ q =
    ap (λ (xs : List ℤ). get_or xs k (pos 0)) (append_assoc outer (q ∷ []) params)
    ∙ subst (λ i. get_or (outer ++ q ∷ params) i (pos 0) ≡ q) o (get_or-append_seam outer q params (pos 0)) in
    let s = ap₂ (λ (j x : ℤ). (pos by -ℤ j) *ℤ x) entry own in
    let z : (pos by -ℤ pos 0) ≡ pos by = omega (arith, ints) in
    let t = ap (λ (j : ℤ). j *ℤ q) z in
    omega (arith, ints, moved, nothing, s, t)

-- the trees are those of a loop's body at the first values, so many, of a block
pub record Unrolls (m k : ℕ) (loops : List Affine) (lo up : Bounds) (body : Trees) (by n : ℕ) (new : Trees)
    : Type 0 where
  pub alike : (params outer : List ℤ) (q : ℤ) → length params ≡ m → length outer ≡ k
      → map shown (walk_all new params (outer ++ q ∷ []))
      ≡ along (masked (lower lo (values_of loops (outer ++ params) ++ params))
      (upper up (values_of loops (outer ++ params) ++ params))
      (λ x. map shown (walk_all body params (values_of loops (outer ++ params) ++ x ∷ [])))) (pos by *ℤ q) n
  pub free : (program : Program) (params outer : List ℤ) (q : ℤ) → length params ≡ m → length outer ≡ k
      → ((x : ℤ) → Within lo up (values_of loops (outer ++ params) ++ params) x
      → AreFree (Conflict program params) body params (values_of loops (outer ++ params) ++ x ∷ []))
      → AreFree (Conflict program params) new params (outer ++ q ∷ [])
  pub fits : (d : ℕ) (params outer : List ℤ) (q : ℤ) → length params ≡ m → length outer ≡ k → NestAllTo d body
      → AreNear d params (outer ++ q ∷ [])
      → ((x : ℤ) → Within lo up (values_of loops (outer ++ params) ++ params) x
      → StayWithin (2 ^ 40) body params (values_of loops (outer ++ params) ++ x ∷ []))
      → FitsAll new params (outer ++ q ∷ [])
  pub serial : AreSerial body → AreSerial new
  pub flat : FlatAll body → FlatAll new
  pub statements : (program : Program) → TreesAreOf program body → TreesAreOf program new
  pub over : TreesAreOver (k + 1 + m) new
  pub small : TreesAreUpTo (2 ^ 45) new
  pub nested : (i j : ℕ) → i ≤ j → NestAllTo i body → NestAllTo j new

pub unrolls_none : (m k : ℕ) (loops : List Affine) (lo up : Bounds) (body : Trees) (by : ℕ)
    → Unrolls m k loops lo up body by 0 none
unrolls_none m k loops lo up body by =
    record {
      alike = λ params outer q p o. refl;
      free = λ program params outer q p o h. tt;
      fits = λ d params outer q p o nests near stay. tt;
      serial = λ h. tt;
      flat = λ h. tt;
      statements = λ program h. tt;
      over = tt;
      small = tt;
      nested = λ i j l h. tt;
    }

-- one value more
pub unrolls_more : (m k : ℕ) (loops : List Affine) (lo up : Bounds) (body : Trees) (by n : ℕ) (new one : Trees)
    → Unrolls m k loops lo up body by n new
    → InlinesAt m (k + 1) (map (widened k) loops) lo up (turn_form (k + 1 + m) k by n) body one
    → Unrolls m k loops lo up body by (n + 1) (joined new one)
unrolls_more m k loops lo up body by n new one done at =
    record {
      alike = λ params outer q p o.
          let old = values_of loops (outer ++ params) in
          let all = outer ++ q ∷ [] in
          let l = length-append outer (q ∷ []) in
          let f : ℤ → List Visit = masked (lower lo (old ++ params)) (upper up (old ++ params))
          (λ x. map shown (walk_all body params (old ++ x ∷ []))) in
          let here = ap₂ (λ (ys : List ℤ) (v : ℤ). masked (lower lo (ys ++ params)) (upper up (ys ++ params))
          (λ x. map shown (walk_all body params (ys ++ x ∷ []))) v) (all_widened k loops outer params q o)
          (turn_value m k by n outer params q o) in
          ap (λ (vs : List Visit). map shown vs) (walk_joined new one params all)
          ∙ (map-append shown (walk_all new params all) (walk_all one params all)
          ∙ (ap₂ (λ (us vs : List Visit). us ++ vs) (done.alike params outer q p o)
          (at.alike params all p (omega (arith, l, o)) ∙ here)
          ∙ sym (along_next f n (pos by *ℤ q))));
      free = λ program params outer q p o h.
          let all = outer ++ q ∷ [] in
          let l = length-append outer (q ∷ []) in
          let inner = subst (λ (ys : List ℤ). (x : ℤ) → Within lo up (ys ++ params) x
          → AreFree (Conflict program params) body params (ys ++ x ∷ []))
          (sym (all_widened k loops outer params q o)) h in
          free_joined (Conflict program params) new one params all (done.free program params outer q p o h)
          (at.free program params all p (omega (arith, l, o))
          (λ w. inner (value_of (turn_form (k + 1 + m) k by n) (all ++ params)) w));
      fits = λ d params outer q p o nests near stay.
          let all = outer ++ q ∷ [] in
          let l = length-append outer (q ∷ []) in
          let inner = subst (λ (ys : List ℤ). (x : ℤ) → Within lo up (ys ++ params) x
          → StayWithin (2 ^ 40) body params (ys ++ x ∷ [])) (sym (all_widened k loops outer params q o)) stay in
          fits_joined new one params all (done.fits d params outer q p o nests near stay)
          (at.fits d params all p (omega (arith, l, o)) nests near
          (λ w. inner (value_of (turn_form (k + 1 + m) k by n) (all ++ params)) w));
      serial = λ h. serial_joined new one (done.serial h) (at.serial h);
      flat = λ h. flat_joined new one (done.flat h) (at.flat h);
      statements = λ program h. of_joined program new one (done.statements program h) (at.statements program h);
      over = over_joined (k + 1 + m) new one done.over at.over;
      small = small_joined (2 ^ 45) new one done.small at.small;
      nested = λ i j l h. nested_joined j new one (done.nested i j l h) (at.nested i j l h);
    }

-- the blocks of a loop, at a point
block_at : (m k : ℕ) (loops forms : List Affine) (by : ℕ) (lo up : Bounds) (low high : Bounds) → 0 < by
    → IsPlace m k loops forms → AreBounds lo → AreBounds up
    → AreEnds (k + m) forms (blocks by (by - 1) lo) (blocks by 0 up) low high
    → (params outer : List ℤ) → length params ≡ m → length outer ≡ k
    → AreBlocksOf by (lower lo (values_of loops (outer ++ params) ++ params))
    (upper up (values_of loops (outer ++ params) ++ params)) (lower low (outer ++ params))
    (upper high (outer ++ params))
block_at m k loops forms by lo up low high some place flat_low flat_high is params outer p o =
    let point = outer ++ params in
    let old = values_of loops point ++ params in
    let at = place_values m k loops forms params outer place p o in
    let first = ap (λ (bs : Bounds). lower bs point) is.lower
    ∙ lower_over (k + m) forms point old at (blocks by (by - 1) lo) in
    let last = ap (λ (bs : Bounds). upper bs point) is.upper
    ∙ upper_over (k + m) forms point old at (blocks by 0 up) in
    subst (λ (z : ℤ). AreBlocksOf by (lower lo old) (upper up old) z (upper high point)) (sym first)
    (subst (λ (z : ℤ). AreBlocksOf by (lower lo old) (upper up old) (lower (blocks by (by - 1) lo) old) z) (sym last)
    (block_range by lo up old some flat_low flat_high))

block_fits : (m k : ℕ) (loops forms : List Affine) (by : ℕ) (lo up : Bounds) (low high : Bounds)
    → (body new : Trees) → 0 < by → IsPlace m k loops forms → AreBounds lo → AreBounds up
    → AreEnds (k + m) forms (blocks by (by - 1) lo) (blocks by 0 up) low high → Unrolls m k loops lo up body by by new
    → (d : ℕ) (params outer : List ℤ) → length params ≡ m → length outer ≡ k
    → NestAllTo d (more (loop false lo up body) none) → AreNear d params outer
    → StayWithin (2 ^ 40) (more (loop false lo up body) none) params (values_of loops (outer ++ params))
    → FitsAll (more (loop false low high new) none) params outer
block_fits m k loops forms by lo up low high body new some place fl fh is done zero params outer p o nests near stay =
    absurd nests.0
block_fits m k loops forms by lo up low high body new some place fl fh is done (suc d) params outer p o deep near stay =
    let point = outer ++ params in
    let old = values_of loops point ++ params in
    let s = near_size (suc d) params outer near in
    let are = block_at m k loops forms by lo up low high some place fl fh is params outer p o in (
      (
        bounds_fit_near low point s is.small_low,
        bounds_fit_near high point s is.small_high,
        (λ q w.
            let room = block_small by (lower lo old) (upper up old) (lower low point) (upper high point) q some are
            stay.0.0 stay.0.1 w.0 w.1 in
            let inner = near_more d params outer q near room in
            (omega (arith, room), done.fits d params outer q p o deep.0 inner stay.0.2)),
      ),
      tt,
    )

block_nested : (lo up low high : Bounds) (body new : Trees)
    → ((i j : ℕ) → i ≤ j → NestAllTo i body → NestAllTo j new) → (n i : ℕ) → n ≤ i
    → NestAllTo n (more (loop false lo up body) none) → NestAllTo i (more (loop false low high new) none)
block_nested lo up low high body new nested zero i l h = absurd h.0
block_nested lo up low high body new nested (suc n) zero l h = absurd (omega arith)
block_nested lo up low high body new nested (suc n) (suc i) l h = (nested n i (omega arith) h.0, tt)

-- a loop gives way to one over its blocks
pub strided : (m k : ℕ) (loops forms : List Affine) (by : ℕ) (lo up : Bounds) (low high : Bounds)
    → (body new : Trees) → 0 < by → IsPlace m k loops forms → AreBounds lo → AreBounds up
    → AreEnds (k + m) forms (blocks by (by - 1) lo) (blocks by 0 up) low high → Unrolls m k loops lo up body by by new
    → Inlines m k loops (more (loop false lo up body) none) (more (loop false low high new) none)
strided m k loops forms by lo up low high body new some place fl fh is done =
    let n = k + m in
    let sized = place_sized m k loops forms place in
    let e : k + 1 + m ≡ suc n = omega arith in
    record {
      alike = λ params outer p o.
          let point = outer ++ params in
          let old = values_of loops point in
          let first = lower lo (old ++ params) in
          let last = upper up (old ++ params) in
          let a = lower low point in
          let b = upper high point in
          let f : ℤ → List Visit = λ x. map shown (walk_all body params (old ++ x ∷ [])) in
          shown_loop new params outer a b
          ∙ (between_same (λ q. map shown (walk_all new params (outer ++ q ∷ [])))
          (λ q. along (masked first last f) (pos by *ℤ q) by) a b (λ q c d. done.alike params outer q p o)
          ∙ (blockwise f by first last a b some
          (block_at m k loops forms by lo up low high some place fl fh is params outer p o)
          ∙ sym (shown_loop body params old first last)));
      free = λ program params outer p o h. (
        ((λ marked. absurd (never marked)), (λ q w. done.free program params outer q p o h.0.1)),
        tt,
      );
      fits = block_fits m k loops forms by lo up low high body new some place fl fh is done;
      serial = λ h. ((refl, done.serial h.0.1), tt);
      flat = λ h. (
        (
          subst AreBounds (sym is.lower)
              (bounds_flat true n forms (blocks by (by - 1) lo) (blocks_flat by (by - 1) lo some fl)),
          subst AreBounds (sym is.upper) (bounds_flat false n forms (blocks by 0 up) (blocks_flat by 0 up some fh)),
          done.flat h.0.2,
        ),
        tt,
      );
      statements = λ program h. (done.statements program h.0, tt);
      over = (
        (
          subst (BoundsAreOver n) (sym is.lower) (bounds_sized true n forms sized (blocks by (by - 1) lo)),
          subst (BoundsAreOver n) (sym is.upper) (bounds_sized false n forms sized (blocks by 0 up)),
          subst (λ i. TreesAreOver i new) e done.over,
        ),
        tt,
      );
      small = ((is.small_low, is.small_high, done.small), tt);
      nested = block_nested lo up low high body new done.nested;
    }
  where
    never : false ≡ true → ⊥
    never h = cc
