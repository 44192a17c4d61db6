-- At the marked place of a scan set stands the first tile coordinate, behind the wave: where values part there, the
-- waves are one and the tiles are two, and instances of a good plan do not conflict.
use Rattle.scop_syntax.proofs.Common.{◌≡◌, ℕ, ◌+◌, ◌-◌, ◌≤◌, ℤ, pos, List, [], ◌∷◌, ◌++◌, length, map, inl, inr, ap}
use Rattle.scop_syntax.proofs.Common.{subst, sym, ◌∙◌, refl, arith, ◌<ℤ◌, Option, Some, ◌⊎◌, ints, length-map, value_of}
use Rattle.scop_syntax.proofs.Common.{floor, zeros, LexLess, LexLess-irrefl, Program, Instance, instance}
use Rattle.loop_tree.specs.Marks.{marked}
use Rattle.loop_tree.specs.Plans.{Conflict, first_coordinate}
use Rattle.loop_tree.specs.Tiling.{TileRow, Item, Items, Tiling, item_values, coordinates, wave_sum, tile_of, wave_of}
use Rattle.loop_tree.specs.Tiling.{IsInOrder, IsGoodPlan}
use Rattle.plain_scan.specs.Scanning.{flags}
use Rattle.tile_skew.specs.Places.{place_of}
use Rattle.tile_skew.specs.ScanSets.{parallel_place}
use Rattle.planned_trees.proofs.Orders.{length_wave, wave_at}
use Rattle.plan_tree.specs.steps.Parting.{PartAt}
use Rattle.plan_tree.proofs.MarkedPlaces.{no_mark, never_part, part_there, none_marked, marked_there}

-- items of these parts
abbrev pub parts : List ℕ → List TileRow → List Item → Items
parts ls rs is = record { leading = ls; band = rs; behind = is }

-- a statement's tile at turns
abbrev pub tile_at : ℤ → List ℕ → List TileRow → List ℤ → List ℤ
tile_at size ls rs us = map pos ls ++ coordinates size rs us

-- a place begins with the wave and the first coordinate
wave_first : (hs : List ℤ) (w c : ℤ) (cs is ts : List ℤ)
    → (hs ++ w ∷ (c ∷ cs ++ is)) ++ ts ≡ (hs ++ w ∷ []) ++ c ∷ ((cs ++ is) ++ ts)
wave_first [] w c cs is ts = refl
wave_first (h ∷ hs) w c cs is ts = ap (λ (xs : List ℤ). h ∷ xs) (wave_first hs w c cs is ts)

begins : (size : ℤ) (n : ℕ) (ls : List ℕ) (r : TileRow) (rs : List TileRow) (is : List Item) (us : List ℤ)
    → place_of size n (parts ls (r ∷ rs) is) us
    ≡ wave_at size ls (r ∷ rs) us ++ floor (value_of r.form us) size
    ∷ ((coordinates size rs us ++ item_values (parts ls (r ∷ rs) is) us) ++ (us ++ zeros (n - length us)))
begins size n ls r rs is us =
    wave_first (map pos ls) (wave_sum size (r ∷ rs) us) (floor (value_of r.form us) size) (coordinates size rs us)
    (item_values (parts ls (r ∷ rs) is) us) (us ++ zeros (n - length us))

-- what stands behind fronts of one length
behind_fronts : (hs bs : List ℤ) (x y : ℤ) (us vs : List ℤ) → length hs ≡ length bs → hs ++ x ∷ us ≡ bs ++ y ∷ vs
    → x ≡ y
behind_fronts [] [] x y us vs same e = cc
behind_fronts [] (b ∷ bs) x y us vs same e = absurd (omega (arith, same))
behind_fronts (h ∷ hs) [] x y us vs same e = absurd (omega (arith, same))
behind_fronts (h ∷ hs) (b ∷ bs) x y us vs same e =
    let rest : hs ++ x ∷ us ≡ bs ++ y ∷ vs = cc in behind_fronts hs bs x y us vs (omega (arith, same)) rest

-- places that part at the mark have one wave and two tiles
pub one_wave : (size : ℤ) (n d : ℕ) (ls ms : List ℕ) (qs rs : List TileRow) (is js : List Item) (us vs : List ℤ)
    (mark : Option ℕ) → mark ≡ parallel_place (length ls + 1) qs → mark ≡ parallel_place (length ms + 1) rs
    → PartAt (flags mark 0 d) (place_of size n (parts ls qs is) us) (place_of size n (parts ms rs js) vs)
    → (wave_at size ls qs us ≡ wave_at size ms rs vs) × (tile_at size ls qs us ≡ tile_at size ms rs vs → ⊥)
one_wave size n d ls ms [] rs is js us vs mark e f h =
    absurd (never_part mark 0 d (place_of size n (parts ls [] is) us) (place_of size n (parts ms rs js) vs)
    (no_mark mark e 0) h)
one_wave size n d ls ms (q ∷ qs) [] is js us vs mark e f h =
    absurd (never_part mark 0 d (place_of size n (parts ls (q ∷ qs) is) us) (place_of size n (parts ms [] js) vs)
    (no_mark mark f 0) h)
one_wave size n d ls ms (q ∷ qs) (r ∷ rs) is js us vs mark e f h =
    let there : length ls + 1 ≡ length ms + 1 = cc in
    let first = floor (value_of q.form us) size in
    let second = floor (value_of r.form vs) size in
    let firsts = (coordinates size qs us ++ item_values (parts ls (q ∷ qs) is) us) ++ (us ++ zeros (n - length us)) in
    let seconds = (coordinates size rs vs ++ item_values (parts ms (r ∷ rs) js) vs) ++ (vs ++ zeros (n - length vs)) in
    let wave = wave_at size ls (q ∷ qs) us in
    let other = wave_at size ms (r ∷ rs) vs in
    let a = length_wave size ls (q ∷ qs) us in
    let b = length_wave size ms (r ∷ rs) vs in
    let parted : PartAt (flags (Some (length ls + 1)) 0 d) (wave ++ first ∷ firsts) (other ++ second ∷ seconds) =
    subst (λ m. PartAt (flags m 0 d) (wave ++ first ∷ firsts) (other ++ second ∷ seconds)) e
    (subst (λ xs. PartAt (flags mark 0 d) (wave ++ first ∷ firsts) xs) (begins size n ms r rs js vs)
    (subst (λ xs. PartAt (flags mark 0 d) xs (place_of size n (parts ms (r ∷ rs) js) vs)) (begins size n ls q qs is us)
    h)) in
    let result = part_there wave other first second firsts seconds (length ls + 1) 0 d (omega (arith, a))
    (a ∙ (there ∙ sym b)) parted in (
      result.0,
      λ same. apart first second result.1
          (behind_fronts (map pos ls) (map pos ms) first second (coordinates size qs us) (coordinates size rs vs)
          (length-map ls pos ∙ (omega (arith, there) ∙ sym (length-map ms pos))) same),
    )
  where
    apart : (x y : ℤ) → x <ℤ y → x ≡ y → ⊥
    apart x y less same = omega (arith, ints, less, same)

-- the value at the mark is the first coordinate
pub marked_place : (size n d : ℕ) (ls : List ℕ) (rs : List TileRow) (is : List Item) (us : List ℤ) (mark : Option ℕ)
    → mark ≡ parallel_place (length ls + 1) rs → length ls + (1 + length rs) ≤ d
    → marked (flags mark 0 d) (place_of (pos size) n (parts ls rs is) us) ≡ first_coordinate size rs us
marked_place size n d ls [] is us mark e few =
    none_marked mark 0 d (place_of (pos size) n (parts ls [] is) us) (no_mark mark e 0)
marked_place size n d ls (r ∷ rs) is us mark e few =
    let a = length_wave (pos size) ls (r ∷ rs) us in
    ap (λ (m : Option ℕ). marked (flags m 0 d) (place_of (pos size) n (parts ls (r ∷ rs) is) us)) e
    ∙ (ap (marked (flags (Some (length ls + 1)) 0 d)) (begins (pos size) n ls r rs is us)
    ∙ marked_there (wave_at (pos size) ls (r ∷ rs) us) (floor (value_of r.form us) (pos size))
    ((coordinates (pos size) rs us ++ item_values (parts ls (r ∷ rs) is) us) ++ (us ++ zeros (n - length us)))
    (length ls + 1) 0 d (omega (arith, a)) (omega (arith, a, few)))

-- two places of one wave and different tiles are in no order of a plan
not_in_order : (plan : Tiling) (i j : ℕ) (x y : Instance) → wave_of plan x ≡ wave_of plan y
    → (tile_of plan x ≡ tile_of plan y → ⊥) → IsInOrder plan i x j y → ⊥
not_in_order plan i j x y same apart (inl less) =
    LexLess-irrefl (wave_of plan y) (subst (λ us. LexLess us (wave_of plan y)) same less)
not_in_order plan i j x y same apart (inr (tile, before)) = apart tile

-- so under a good plan they do not conflict
pub not_in_conflict : (program : Program) (params : List ℤ) (plan : Tiling) → IsGoodPlan program params plan
    → (x y : Instance) → wave_of plan x ≡ wave_of plan y → (tile_of plan x ≡ tile_of plan y → ⊥)
    → Conflict program params x y → ⊥
not_in_conflict program params plan good x y same apart c = decided c.are
  where
    ordered : (u w : Instance) → instance c.places.earlier ≡ u → instance c.places.later ≡ w
        → IsInOrder plan c.earlier u c.later w
    ordered u w e f =
        subst (λ z. IsInOrder plan c.earlier u c.later z) f
        (subst (λ z. IsInOrder plan c.earlier z c.later (instance c.places.later)) e
        (good c.earlier c.later c.places))

    decided : ((instance c.places.earlier ≡ x) × (instance c.places.later ≡ y))
        ⊎ ((instance c.places.earlier ≡ y) × (instance c.places.later ≡ x)) → ⊥
    decided (inl (e, f)) = not_in_order plan c.earlier c.later x y same apart (ordered x y e f)
    decided (inr (e, f)) =
        not_in_order plan c.earlier c.later y x (sym same) (λ tile. apart (sym tile)) (ordered y x e f)
