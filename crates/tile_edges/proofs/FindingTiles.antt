-- Instances and the tiles of a list that rises: by halving, and by the tile of the instance before.
use Rattle.scop_syntax.proofs.Common.{◌≡◌, ◌<◌, ◌≤◌, ℕ, zero, suc, ◌⊎◌, inl, inr, ⊎_elim, ℤ, Bool, true, false, List}
use Rattle.scop_syntax.proofs.Common.{[], ◌∷◌, ◌++◌, Some, ap, ap₂, sym, refl, ◌∙◌, subst, arith, length, get_or}
use Rattle.scop_syntax.proofs.Common.{slice_get, Ordering, Less, Greater, slice_get_within, get_or_from_slice_get}
use Rattle.scop_syntax.proofs.Common.{LexLess, In, instance_of, Instance, in_append, in_front, in_back, in_from_place}
use Rattle.scop_syntax.proofs.Common.{place_of, there_is, nat_cases, sorted_places}
use Rattle.std.specs.Cmp.{int_cmp_is}
use Rattle.std.specs.Cmp.Lexicographic.{slice_cmp}
use Rattle.std.specs.Ordering.{int_cmp, match_ordering, ordering_then}
use Rattle.std.proofs.Common.{Equal}
use Rattle.loop_tree.specs.Tiling.{Tiling, tile_of, wave_of}
use Rattle.loop_tree.specs.Tree.{Trees}
use Rattle.loop_tree.specs.Walk.{visits}
use Rattle.tile_list.specs.Tiles.{InOneTile, PartBefore, joined}
use Rattle.tile_list.specs.TilesView.{IsTileListOf}
use Rattle.tile_list.specs.declared.list.Tile.{Tile}
use Rattle.tile_list.specs.declared.list.TileList.{TileList}
use Rattle.tile_list.proofs.Order.{one-sym, one-trans, one_then_before, before_then_one, before-irrefl}
use Rattle.tile_edges.specs.Edges.{IsTileOf}
use Rattle.tile_edges.specs.steps.Finding.{ArePlacesOf, HasTileOf, IsFinder, IsPlaceOf, Stands, TilesRise, comes_before}
use Rattle.tile_edges.specs.declared.finding.Finder.{Finder}
use Rattle.tile_edges.specs.declared.finding.Place.{Place}

-- comparing lists of numbers
less_told : (xs ys : List ℤ) → LexLess xs ys → slice_cmp int_cmp xs ys ≡ Less
less_told [] [] l = absurd l
less_told [] (y ∷ ys) l = refl
less_told (x ∷ xs) [] l = absurd l
less_told (x ∷ xs) (y ∷ ys) (inl l) =
    ap (λ (o : Ordering). ordering_then o (slice_cmp int_cmp xs ys)) (sym (int_cmp_is x y Less l))
less_told (x ∷ xs) (y ∷ ys) (inr l) =
    ap (λ (o : Ordering). ordering_then o (slice_cmp int_cmp xs ys)) (sym (int_cmp_is x y Equal l.0)) ∙ less_told xs ys l.1

greater_told : (xs ys : List ℤ) → LexLess ys xs → slice_cmp int_cmp xs ys ≡ Greater
greater_told [] [] l = absurd l
greater_told [] (y ∷ ys) l = absurd l
greater_told (x ∷ xs) [] l = refl
greater_told (x ∷ xs) (y ∷ ys) (inl l) =
    ap (λ (o : Ordering). ordering_then o (slice_cmp int_cmp xs ys)) (sym (int_cmp_is x y Greater l))
greater_told (x ∷ xs) (y ∷ ys) (inr l) =
    ap (λ (o : Ordering). ordering_then o (slice_cmp int_cmp xs ys)) (sym (int_cmp_is x y Equal (sym l.0)))
    ∙ greater_told xs ys l.1

same_told : (xs : List ℤ) → slice_cmp int_cmp xs xs ≡ Equal
same_told [] = refl
same_told (x ∷ xs) =
    ap (λ (o : Ordering). ordering_then o (slice_cmp int_cmp xs xs)) (sym (int_cmp_is x x Equal refl)) ∙ same_told xs

-- whether wave and tile w, s come before v, t
abbrev before_by : List ℤ → List ℤ → List ℤ → List ℤ → Bool
before_by w s v t =
    match_ordering (slice_cmp int_cmp w v) true (match_ordering (slice_cmp int_cmp s t) true false false) false

lesser : (w s v t : List ℤ) → LexLess w v ⊎ ((w ≡ v) × LexLess s t) → before_by w s v t ≡ true
lesser w s v t (inl l) =
    ap (λ (o : Ordering). match_ordering o true (match_ordering (slice_cmp int_cmp s t) true false false) false)
    (less_told w v l)
lesser w s v t (inr l) =
    ap (λ (o : Ordering). match_ordering o true (match_ordering (slice_cmp int_cmp s t) true false false) false)
    (ap (λ (u : List ℤ). slice_cmp int_cmp w u) (sym l.0) ∙ same_told w)
    ∙ ap (λ (o : Ordering). match_ordering o true false false) (less_told s t l.1)

greater : (w s v t : List ℤ) → LexLess v w ⊎ ((v ≡ w) × LexLess t s) → before_by w s v t ≡ false
greater w s v t (inl l) =
    ap (λ (o : Ordering). match_ordering o true (match_ordering (slice_cmp int_cmp s t) true false false) false)
    (greater_told w v l)
greater w s v t (inr l) =
    ap (λ (o : Ordering). match_ordering o true (match_ordering (slice_cmp int_cmp s t) true false false) false)
    (ap (λ (u : List ℤ). slice_cmp int_cmp w u) l.0 ∙ same_told w)
    ∙ ap (λ (o : Ordering). match_ordering o true false false) (greater_told s t l.1)

level : (w s v t : List ℤ) → w ≡ v → s ≡ t → before_by w s v t ≡ false
level w s v t e f =
    ap (λ (o : Ordering). match_ordering o true (match_ordering (slice_cmp int_cmp s t) true false false) false)
    (ap (λ (u : List ℤ). slice_cmp int_cmp w u) (sym e) ∙ same_told w)
    ∙ ap (λ (o : Ordering). match_ordering o true false false)
    (ap (λ (u : List ℤ). slice_cmp int_cmp s u) (sym f) ∙ same_told s)

-- places tell which instance comes before
places_tell : (tiling : Tiling) (x y : Instance) (p q : Place) → IsPlaceOf tiling x p → IsPlaceOf tiling y q
    → comes_before p q ≡ before_by (wave_of tiling x) (tile_of tiling x) (wave_of tiling y) (tile_of tiling y)
places_tell tiling x y p q is are =
    ap₂ (λ (w v : List ℤ). before_by w p.tile.items v q.tile.items) is.wave are.wave
    ∙ ap₂ (λ (s t : List ℤ). before_by (wave_of tiling x) s (wave_of tiling y) t) is.tile are.tile

-- the place of an instance stands at that of its tile
pub stands : (tiling : Tiling) (list : TileList) (places : List Place) (place : Place) (x : Instance) (t : ℕ)
    → ArePlacesOf tiling list.tiles.items places → TilesRise tiling list.tiles.items → IsPlaceOf tiling x place
    → IsTileOf tiling list t x → Stands places place t
stands tiling list places place x t are rise is tile = record {
  within = let count = are.count in
      let less = slice_get_within list.tiles.items t tile.tile tile.is in omega (arith, count, less);
  past = λ u q at less. let r = its u q at in
      places_tell tiling x (instance_of r.0.first) place q is (are.each u r.0 q r.1 at)
      ∙ lesser (wave_of tiling x) (tile_of tiling x) (wave_of tiling (instance_of r.0.first))
      (tile_of tiling (instance_of r.0.first))
      (one_then_before tiling x (instance_of tile.tile.first) (instance_of r.0.first) tile.one
      (rise t u tile.tile r.0 tile.is r.1 less));
  reached = λ u q at le. let r = its u q at in
      places_tell tiling x (instance_of r.0.first) place q is (are.each u r.0 q r.1 at)
      ∙ nat_cases u t
      (λ less. greater (wave_of tiling x) (tile_of tiling x) (wave_of tiling (instance_of r.0.first))
      (tile_of tiling (instance_of r.0.first))
      (before_then_one tiling (instance_of r.0.first) (instance_of tile.tile.first) x
      (rise u t r.0 tile.tile r.1 tile.is less) (one-sym tiling x (instance_of tile.tile.first) tile.one)))
      (λ e. let same : Some r.0 ≡ Some tile.tile =
      sym r.1 ∙ (ap (slice_get list.tiles.items) e ∙ tile.is) in
      let one : r.0 ≡ tile.tile = cc in
      let in_one : InOneTile tiling x (instance_of r.0.first) =
      subst (λ (a : Tile). InOneTile tiling x (instance_of a.first)) (sym one) tile.one in
      level (wave_of tiling x) (tile_of tiling x) (wave_of tiling (instance_of r.0.first))
      (tile_of tiling (instance_of r.0.first)) in_one.wave in_one.tile)
      (λ more. absurd (omega (arith, le, more)));
}
  where
    its : (u : ℕ) (q : Place) → slice_get places u ≡ Some q → (a : Tile) × (slice_get list.tiles.items u ≡ Some a)
    its u q at =
        let count = are.count in
        let less = slice_get_within places u q at in
        there_is list.tiles.items u (omega (arith, count, less))

-- one step of halving
pub halved_down : (places : List Place) (place q : Place) (low high middle t : ℕ) → slice_get places middle ≡ Some q
    → comes_before place q ≡ true → Stands places place t → (low ≤ t) × (t < high) → (low ≤ t) × (t < middle)
halved_down places place q low high middle t at told s around = (
  around.0,
  nat_cases t middle (λ l. l)
      (λ e. absurd (differ (sym told ∙ s.reached middle q at (omega (arith, e)))))
      (λ l. absurd (differ (sym told ∙ s.reached middle q at (omega (arith, l))))),
)
  where
    differ : true ≡ false → ⊥
    differ e = cc

pub halved_up : (places : List Place) (place q : Place) (low high middle t : ℕ) → slice_get places middle ≡ Some q
    → comes_before place q ≡ false → Stands places place t → (low ≤ t) × (t < high) → (middle ≤ t) × (t < high)
halved_up places place q low high middle t at told s around = (
  nat_cases t middle (λ l. absurd (differ (sym (s.past middle q at l) ∙ told))) (λ e. omega (arith, e))
      (λ l. omega (arith, l)),
  around.1,
)
  where
    differ : true ≡ false → ⊥
    differ e = cc

-- a place more
pub places_more : (tiling : Tiling) (tiles : List Tile) (places new : List Place) (k : ℕ) (tile : Tile) (place : Place)
    → length places ≡ k → tile ≡ get_or tiles k tile
    → ((t : ℕ) (a : Tile) (p : Place) → slice_get tiles t ≡ Some a → slice_get places t ≡ Some p
    → IsPlaceOf tiling (instance_of a.first) p)
    → IsPlaceOf tiling (instance_of tile.first) place → new ≡ places ++ place ∷ []
    → (t : ℕ) (a : Tile) (p : Place) → slice_get tiles t ≡ Some a → slice_get new t ≡ Some p
    → IsPlaceOf tiling (instance_of a.first) p
places_more tiling tiles places new k tile place count is each here e t a p at told =
    by_end (split_last places place t p (ap (λ (ps : List Place). slice_get ps t) (sym e) ∙ told))
  where
    by_end : (slice_get places t ≡ Some p) ⊎ ((t ≡ length places) × (p ≡ place))
        → IsPlaceOf tiling (instance_of a.first) p
    by_end (inl old) = each t a p at old
    by_end (inr (last, same)) =
        let this : a ≡ tile = sym (get_or_from_slice_get tiles k a tile
        (ap (slice_get tiles) (sym (last ∙ count)) ∙ at)) ∙ sym is in
        subst (λ (b : Tile). IsPlaceOf tiling (instance_of b.first) p) (sym this)
        (subst (IsPlaceOf tiling (instance_of tile.first)) (sym same) here)

    split_last : (ps : List Place) (q : Place) (i : ℕ) (r : Place) → slice_get (ps ++ q ∷ []) i ≡ Some r
        → (slice_get ps i ≡ Some r) ⊎ ((i ≡ length ps) × (r ≡ q))
    split_last [] q zero r h = inr (refl, cc)
    split_last [] q (suc i) r h = absurd cc
    split_last (b ∷ ps) q zero r h = inl h
    split_last (b ∷ ps) q (suc i) r h =
        ⊎_elim (λ j. inl j) (λ j. let same = j.0 in inr (omega (arith, same), j.1)) (split_last ps q i r h)

-- an element of a list at its index
pub got_at : {A : Type 0} (xs : List A) (k : ℕ) (x : A) → k < length xs → x ≡ get_or xs k x → slice_get xs k ≡ Some x
got_at xs k x inside is =
    let t = there_is xs k inside in
    t.1 ∙ ap Some (sym (is ∙ get_or_from_slice_get xs k t.0 x t.1))

-- what was found
pub found_same : (tiling : Tiling) (list : TileList) (finder : Finder) (x : Instance) (here place : Place)
    → IsFinder tiling list finder → HasTileOf tiling list x → IsPlaceOf tiling x here
    → place ≡ get_or finder.places.items finder.at place → here.wave.items ≡ place.wave.items
    → here.tile.items ≡ place.tile.items → IsTileOf tiling list finder.at x
found_same tiling list finder x here place is there mine told wave same =
    let some = slice_get_within list.tiles.items there.0 there.1.tile there.1.is in
    let less = is.at (omega (arith, some)) in
    let tile = there_is list.tiles.items finder.at less in
    let count = is.places.count in
    let its = is.places.each finder.at tile.0 place tile.1
    (got_at finder.places.items finder.at place (omega (arith, less, count)) told) in
    record {
      tile = tile.0;
      is = tile.1;
      one = record {
        wave = sym mine.wave ∙ (wave ∙ its.wave);
        tile = sym mine.tile ∙ (same ∙ its.tile);
      };
    }

pub found_tile : (tiling : Tiling) (list : TileList) (places : List Place) (place : Place) (x : Instance) (at : ℕ)
    → ArePlacesOf tiling list.tiles.items places → TilesRise tiling list.tiles.items → IsPlaceOf tiling x place
    → ((t : ℕ) → Stands places place t → at ≡ t) → HasTileOf tiling list x → IsTileOf tiling list at x
found_tile tiling list places place x at are rise is found there =
    subst (λ t. IsTileOf tiling list t x) (sym (found there.0 (stands tiling list places place x there.0 are rise is there.1)))
    there.1

-- there is a place where the last one was found
pub at_within : (tiling : Tiling) (list : TileList) (finder : Finder) (x : Instance) → IsFinder tiling list finder
    → HasTileOf tiling list x → finder.at < length finder.places.items
at_within tiling list finder x is there =
    let some = slice_get_within list.tiles.items there.0 there.1.tile there.1.is in
    let less = is.at (omega (arith, some)) in
    let count = is.places.count in
    omega (arith, less, count)

-- the tiles of visits
module _ (ts : Trees) (params : List ℤ) (tiling : Tiling) (list : TileList) (is : IsTileListOf ts params tiling list) where
  -- a part's first
  part_first : (t : ℕ) (a : Tile) → slice_get list.tiles.items t ≡ Some a
      → (p : List Instance) × (slice_get is.parts t ≡ Some p) × In (instance_of a.first) p
  part_first t a at =
      let less = slice_get_within list.tiles.items t a at in
      let count = is.count in
      let part = there_is is.parts t (omega (arith, less, count)) in
      let first = (is.tiles t a at).first in
      let same = get_or_from_slice_get is.parts t part.0 [] part.1 in (
        part.0,
        part.1,
        in_from_place part.0 0 (instance_of a.first)
            (subst (λ q. slice_get q 0 ≡ Some (instance_of a.first)) same first),
      )

  pub tiles_rise : TilesRise tiling list.tiles.items
  tiles_rise t u a b at bt less =
      let p = part_first t a at in
      let q = part_first u b bt in
      sorted_places (PartBefore tiling) is.parts is.cut.rise t u p.0 q.0 p.1 q.1 less (instance_of a.first)
      (instance_of b.first) p.2 q.2

  pub has_tile_of : (x : Instance) → In x (visits ts params) → HasTileOf tiling list x
  has_tile_of x i =
      let r = in_parts is.parts (subst (λ xs. In x xs) (sym is.cut.all) i) in
      let k = place_of is.parts r.0 r.1 in
      let count = is.count in
      let less = slice_get_within is.parts k.0 r.0 k.1 in
      let tile = there_is list.tiles.items k.0 (omega (arith, count, less)) in
      let p = part_first k.0 tile.0 tile.1 in
      let same : Some p.0 ≡ Some r.0 = sym p.1 ∙ k.1 in
      let this : p.0 ≡ r.0 = cc in (
        k.0,
        record {
          tile = tile.0;
          is = tile.1;
          one = is.cut.one r.0 r.1 x (instance_of tile.0.first) r.2
              (subst (λ q. In (instance_of tile.0.first) q) this p.2);
        },
      )
    where
      in_parts : (ps : List (List Instance)) → In x (joined ps) → (p : List Instance) × In p ps × In x p
      in_parts [] i = absurd i
      in_parts (p ∷ ps) i = ⊎_elim (λ j. (p, inl refl, j)) (λ j. let r = in_parts ps j in (r.0, inr r.1, r.2))
          (in_append x p (joined ps) i)

  -- the first instance of a tile is visited
  pub first_visited : (t : ℕ) (a : Tile) → slice_get list.tiles.items t ≡ Some a → In (instance_of a.first) (visits ts params)
  first_visited t a at =
      let p = part_first t a at in
      subst (λ xs. In (instance_of a.first) xs) is.cut.all
      (in_joined is.parts p.0 (in_from_place is.parts t p.0 p.1) (instance_of a.first) p.2)
    where
      in_joined : (ps : List (List Instance)) (p : List Instance) → In p ps → (x : Instance) → In x p → In x (joined ps)
      in_joined [] p i x j = absurd i
      in_joined (q ∷ ps) p (inl e) x j = in_front x q (joined ps) (subst (λ r. In x r) e j)
      in_joined (q ∷ ps) p (inr i) x j = in_back x q (joined ps) (in_joined ps p i x j)

  -- an instance lies in one tile
  pub one_tile : (t u : ℕ) (x : Instance) → IsTileOf tiling list t x → IsTileOf tiling list u x → t ≡ u
  one_tile t u x h k = nat_cases t u (λ l. absurd (apart t u h k l)) (λ e. e) (λ l. absurd (apart u t k h l))
    where
      apart : (a b : ℕ) → IsTileOf tiling list a x → IsTileOf tiling list b x → a < b → ⊥
      apart a b h k l =
          before-irrefl tiling (instance_of h.tile.first) (instance_of k.tile.first)
          (one-trans tiling (instance_of h.tile.first) x (instance_of k.tile.first)
          (one-sym tiling x (instance_of h.tile.first) h.one) k.one) (tiles_rise a b h.tile k.tile h.is k.is l)
