-- How many tiles and waves a list of tiles has: as many as it has tiles, and as many as the numbers of waves tell. How
-- many values a function has on lists with the same values.
use Rattle.scop_syntax.proofs.Common.{◌≡◌, ◌∙◌, ℕ, zero, suc, ◌+◌, ℤ, List, [], ◌∷◌, length, map, inl, inr, refl, ap}
use Rattle.scop_syntax.proofs.Common.{Some, sym, subst, arith, ap₂, ◌-◌, ⊤, slice_get, slice_index_or, length-map}
use Rattle.scop_syntax.proofs.Common.{LexLess, LexLess-irrefl, LexLess-trans, In, Sorted, instance_of, Instance}
use Rattle.scop_syntax.proofs.Common.{in_append, in_back, in_from_place, in_front, in_map, in_map_from}
use Rattle.loop_tree.specs.Tiling.{Tiling, tile_of, wave_of}
use Rattle.loop_tree.specs.Tree.{Trees}
use Rattle.loop_tree.specs.Walk.{visits}
use Rattle.tile_list.specs.Counting.{HasTiles, HasValues, HasWaves}
use Rattle.tile_list.specs.Tiles.{AreNextWaves, AreWaves, InOneTile, IsNextWave, PartBefore, TileBefore, joined}
use Rattle.tile_list.specs.Tiles.{waves_in}
use Rattle.tile_list.specs.TilesView.{IsTileListOf, firsts_of, waves_of}
use Rattle.tile_list.specs.declared.list.Tile.{Tile}
use Rattle.tile_list.specs.declared.list.TileList.{TileList}
use Rattle.tile_list.proofs.Order.{before-irrefl}

-- no element is the same as one behind it
abbrev AreDifferent : {K : Type 0} → List K → Type 0
AreDifferent {K} vs = Sorted (λ (v w : K). v ≡ w → ⊥) vs

-- each then stands at one place
one_place : {K : Type 0} (vs : List K) (i j : ℕ) (v : K) → AreDifferent vs → slice_get vs i ≡ Some v
    → slice_get vs j ≡ Some v → i ≡ j
one_place [] i j v s e f = absurd (in_from_place [] i v e)
one_place (u ∷ vs) zero zero v s e f = refl
one_place (u ∷ vs) zero (suc j) v s e f = absurd (s.0 v (in_from_place vs j v f) cc)
one_place (u ∷ vs) (suc i) zero v s e f = absurd (s.0 v (in_from_place vs i v e) cc)
one_place (u ∷ vs) (suc i) (suc j) v s e f = ap suc (one_place vs i j v s.1 e f)

-- a function that tells each element from those behind it has as many values as there are elements
values_apart : {A K : Type 0} (f : A → K) (xs : List A) → AreDifferent (map f xs) → HasValues f xs (length xs)
values_apart f xs s = record {
  values = map f xs;
  count = length-map xs f;
  apart = λ i j v. one_place (map f xs) i j v s;
  all = λ x. in_map f x xs;
  some = λ v i. let h = in_map_from f v xs i in (h.0, h.1, sym h.2);
}

-- a list with the same values has as many
pub same_values : {A K : Type 0} (f : A → K) (xs ys : List A) (n : ℕ) → HasValues f xs n
    → ((y : A) → In y ys → (x : A) × In x xs × (f y ≡ f x)) → ((x : A) → In x xs → (y : A) × In y ys × (f y ≡ f x))
    → HasValues f ys n
same_values {A} {K} f xs ys n h from to = record {
  values = h.values;
  count = h.count;
  apart = h.apart;
  all = λ y i. let x = from y i in subst (λ v. In v h.values) (sym x.2) (h.all x.0 x.1);
  some = λ v i. let x = h.some v i in let y = to x.0 x.1 in (y.0, y.1, y.2 ∙ x.2);
}

-- the first of each part
abbrev AreFirsts : List (List Instance) → List Instance → Type 0
AreFirsts [] [] = ⊤
AreFirsts [] (x ∷ xs) = ⊥
AreFirsts (p ∷ ps) [] = ⊥
AreFirsts (p ∷ ps) (x ∷ xs) = (slice_get p 0 ≡ Some x) × AreFirsts ps xs

-- a tile's first instance is the first of its part
abbrev AreBegun : List (List Instance) → List Tile → Type 0
AreBegun ps ts = (t : ℕ) (tile : Tile) → slice_get ts t ≡ Some tile
    → slice_get (slice_index_or ps t []) 0 ≡ Some (instance_of tile.first)

are_firsts : (ps : List (List Instance)) (ts : List Tile) → length ts ≡ length ps → AreBegun ps ts
    → AreFirsts ps (firsts_of ts)
are_firsts [] [] e h = tt
are_firsts [] (t ∷ ts) e h = absurd (omega (arith, e))
are_firsts (p ∷ ps) [] e h = absurd (omega (arith, e))
are_firsts (p ∷ ps) (t ∷ ts) e h = (h 0 t refl, are_firsts ps ts (omega (arith, e)) (λ u tile. h (suc u) tile))

first_in : (ps : List (List Instance)) (xs : List Instance) (x : Instance) → AreFirsts ps xs → In x xs
    → In x (joined ps)
first_in [] [] x h i = absurd i
first_in [] (y ∷ xs) x h i = absurd h
first_in (p ∷ ps) [] x h i = absurd h
first_in (p ∷ ps) (y ∷ xs) x h (inl e) =
    in_front x p (joined ps) (subst (λ z. In z p) (sym e) (in_from_place p 0 y h.0))
first_in (p ∷ ps) (y ∷ xs) x h (inr i) = in_back x p (joined ps) (first_in ps xs x h.1 i)

listed_firsts : (ts : Trees) (params : List ℤ) (tiling : Tiling) (list : TileList)
    → (is : IsTileListOf ts params tiling list)
    → AreFirsts is.parts (firsts_of list.tiles.items)
listed_firsts ts params tiling list is =
    are_firsts is.parts list.tiles.items is.count (λ t tile e. (is.tiles t tile e).first)

-- each instance lies in the tile of a first one
first_of_tile : (tiling : Tiling) (ps : List (List Instance)) (xs : List Instance) (y : Instance) → AreFirsts ps xs
    → ((p : List Instance) → In p ps → (x z : Instance) → In x p → In z p → InOneTile tiling x z)
    → In y (joined ps) → (x : Instance) × In x xs × InOneTile tiling y x
first_of_tile tiling [] xs y h one i = absurd i
first_of_tile tiling (p ∷ ps) [] y h one i = absurd h
first_of_tile tiling (p ∷ ps) (x ∷ xs) y h one i = elim (in_append y p (joined ps) i) [
  | inl here ↦ (x, inl refl, one p (inl refl) y x here (in_from_place p 0 x h.0))
  | inr there ↦
      let r = first_of_tile tiling ps xs y h.1 (λ q k. one q (inr k)) there in
      (r.0, inr r.1, r.2)
]

-- the firsts of parts stand in the order of the parts
firsts_rise : (tiling : Tiling) (ps : List (List Instance)) (xs : List Instance) → AreFirsts ps xs
    → Sorted (PartBefore tiling) ps → Sorted (TileBefore tiling) xs
firsts_rise tiling [] [] h s = tt
firsts_rise tiling [] (x ∷ xs) h s = absurd h
firsts_rise tiling (p ∷ ps) [] h s = absurd h
firsts_rise tiling (p ∷ ps) (x ∷ xs) h s = (
  λ y i. let q = part_of ps xs y h.1 i in s.0 q.0 q.1 x y (in_from_place p 0 x h.0) q.2,
  firsts_rise tiling ps xs h.1 s.1,
)
  where
    part_of : (qs : List (List Instance)) (ys : List Instance) (y : Instance) → AreFirsts qs ys → In y ys
        → (q : List Instance) × In q qs × In y q
    part_of [] [] y k i = absurd i
    part_of [] (z ∷ ys) y k i = absurd k
    part_of (q ∷ qs) [] y k i = absurd k
    part_of (q ∷ qs) (z ∷ ys) y k (inl e) =
        (q, inl refl, subst (λ u. In u q) (sym e) (in_from_place q 0 z k.0))
    part_of (q ∷ qs) (z ∷ ys) y k (inr i) = let r = part_of qs ys y k.1 i in (r.0, inr r.1, r.2)

-- an instance's wave and its tile
abbrev key_of : Tiling → Instance → List ℤ × List ℤ
key_of tiling x = (wave_of tiling x, tile_of tiling x)

keys_differ : (tiling : Tiling) (xs : List Instance) → Sorted (TileBefore tiling) xs
    → AreDifferent (map (key_of tiling) xs)
keys_differ tiling [] s = tt
keys_differ tiling (x ∷ xs) s = (
  λ v i e.
      let y = in_map_from (key_of tiling) v xs i in
      let same = e ∙ y.2 in
      before-irrefl tiling x y.0 (record { wave = ap (λ k. k.0) same; tile = ap (λ k. k.1) same }) (s.0 y.0 y.1),
  keys_differ tiling xs s.1,
)

-- the waves behind that of x, which has number m: one for each number more
record AreWavesBehind (tiling : Tiling) (x : Instance) (m : ℕ) (ys : List Instance) (ns : List ℕ) : Type 0 where
  values : List (List ℤ)
  count : m + suc (length values) ≡ waves_in (m ∷ ns)
  rise : Sorted LexLess (wave_of tiling x ∷ values)
  all : (y : Instance) → In y ys → In (wave_of tiling y) (wave_of tiling x ∷ values)
  some : (v : List ℤ) → In v values → (y : Instance) × In y ys × (wave_of tiling y ≡ v)

-- one instance more: its wave is among its own and those behind it
among : (tiling : Tiling) (y : Instance) (n : ℕ) (ys : List Instance) (ns : List ℕ)
    → (r : AreWavesBehind tiling y n ys ns) → (z : Instance) → In z (y ∷ ys)
    → In (wave_of tiling z) (wave_of tiling y ∷ r.values)
among tiling y n ys ns r z (inl e) = inl (ap (wave_of tiling) e)
among tiling y n ys ns r z (inr i) = r.all z i

-- each of these is the wave of one of them
found : (tiling : Tiling) (y : Instance) (n : ℕ) (ys : List Instance) (ns : List ℕ)
    → (r : AreWavesBehind tiling y n ys ns) → (v : List ℤ) → In v (wave_of tiling y ∷ r.values)
    → (z : Instance) × In z (y ∷ ys) × (wave_of tiling z ≡ v)
found tiling y n ys ns r v (inl e) = (y, inl refl, sym e)
found tiling y n ys ns r v (inr i) = let z = r.some v i in (z.0, inr z.1, z.2)

-- a wave before the first of these is before all
later : (tiling : Tiling) (x y : Instance) (vs : List (List ℤ)) → LexLess (wave_of tiling x) (wave_of tiling y)
    → Sorted LexLess (wave_of tiling y ∷ vs) → (v : List ℤ) → In v (wave_of tiling y ∷ vs)
    → LexLess (wave_of tiling x) v
later tiling x y vs less s v (inl e) = subst (LexLess (wave_of tiling x)) (sym e) less
later tiling x y vs less s v (inr i) = LexLess-trans (wave_of tiling x) (wave_of tiling y) v less (s.0 v i)

waves_behind : (tiling : Tiling) (x : Instance) (m : ℕ) (ys : List Instance) (ns : List ℕ)
    → AreNextWaves tiling x m ys ns → AreWavesBehind tiling x m ys ns
waves_behind tiling x m [] [] h = record {
  values = [];
  count = omega arith;
  rise = (λ v i. absurd i, tt);
  all = λ y i. absurd i;
  some = λ v i. absurd i;
}
waves_behind tiling x m [] (n ∷ ns) h = absurd h
waves_behind tiling x m (y ∷ ys) [] h = absurd h
waves_behind tiling x m (y ∷ ys) (n ∷ ns) h = next h.0 (waves_behind tiling y n ys ns h.1)
  where
    next : IsNextWave tiling x m y n → AreWavesBehind tiling y n ys ns → AreWavesBehind tiling x m (y ∷ ys) (n ∷ ns)
    next (inl k) r =
        let wave = sym k.0 in
        let number = k.1 in
        let count = r.count in record {
          values = r.values;
          count = omega (arith, number, count);
          rise = subst (λ (w : List ℤ). Sorted LexLess (w ∷ r.values)) wave r.rise;
          all = λ z i. subst (λ (w : List ℤ). In (wave_of tiling z) (w ∷ r.values)) wave
              (among tiling y n ys ns r z i);
          some = λ v i. let z = r.some v i in (z.0, inr z.1, z.2);
        }
    next (inr k) r =
        let number = k.1 in
        let count = r.count in record {
          values = wave_of tiling y ∷ r.values;
          count = omega (arith, number, count);
          rise = (later tiling x y r.values k.0 r.rise, r.rise);
          all = λ z i. inr (among tiling y n ys ns r z i);
          some = found tiling y n ys ns r;
        }

-- in a list that rises no element is the same as one behind it
rising_differ : (vs : List (List ℤ)) → Sorted LexLess vs → AreDifferent vs
rising_differ [] s = tt
rising_differ (v ∷ vs) s = (
  λ w i e. LexLess-irrefl w (subst (λ (u : List ℤ). LexLess u w) e (s.0 w i)),
  rising_differ vs s.1,
)

-- instances have as many waves as their numbers tell
numbered_waves : (tiling : Tiling) (xs : List Instance) (ns : List ℕ) → AreWaves tiling xs ns
    → HasWaves tiling xs (waves_in ns)
numbered_waves tiling [] [] h = record {
  values = [];
  count = refl;
  apart = λ i j v e. absurd (in_from_place [] i v e);
  all = λ x i. absurd i;
  some = λ v i. absurd i;
}
numbered_waves tiling [] (n ∷ ns) h = absurd h
numbered_waves tiling (x ∷ xs) [] h = absurd h
numbered_waves tiling (x ∷ xs) (n ∷ ns) h =
    let r = waves_behind tiling x n xs ns h.1 in
    let zero_first = h.0 in
    let count = r.count in record {
      values = wave_of tiling x ∷ r.values;
      count = omega (arith, zero_first, count);
      apart = λ i j v. one_place (wave_of tiling x ∷ r.values) i j v
          (rising_differ (wave_of tiling x ∷ r.values) r.rise);
      all = among tiling x n xs ns r;
      some = found tiling x n xs ns r;
    }

-- what is the same in one tile has as many values on the visits as on the firsts of the tiles
of_firsts : {K : Type 0} (f : Instance → K) (ts : Trees) (params : List ℤ) (tiling : Tiling) (list : TileList) (n : ℕ)
    → ((x y : Instance) → InOneTile tiling x y → f x ≡ f y) → IsTileListOf ts params tiling list
    → HasValues f (firsts_of list.tiles.items) n → HasValues f (visits ts params) n
of_firsts f ts params tiling list n same is h =
    let xs = firsts_of list.tiles.items in
    let firsts = listed_firsts ts params tiling list is in
    same_values f xs (visits ts params) n h
    (λ y i. let x = first_of_tile tiling is.parts xs y firsts is.cut.one
    (subst (λ (zs : List Instance). In y zs) (sym is.cut.all) i) in (x.0, x.1, same y x.0 x.2))
    (λ x i. (x, subst (λ (zs : List Instance). In x zs) is.cut.all (first_in is.parts xs x firsts i), refl))

pub tiles_counted : (ts : Trees) (params : List ℤ) (tiling : Tiling) (list : TileList)
    → IsTileListOf ts params tiling list → HasTiles tiling (visits ts params) (length list.tiles.items)
tiles_counted ts params tiling list is =
    let xs = firsts_of list.tiles.items in
    let firsts = listed_firsts ts params tiling list is in
    let differ = keys_differ tiling xs (firsts_rise tiling is.parts xs firsts is.cut.rise) in
    of_firsts (key_of tiling) ts params tiling list (length list.tiles.items)
    (λ x y one. ap₂ (λ (w t : List ℤ). (w, t)) one.wave one.tile) is
    (subst (HasValues (key_of tiling) xs) (length-map list.tiles.items (λ t. instance_of t.first))
    (values_apart (key_of tiling) xs differ))

pub waves_counted : (ts : Trees) (params : List ℤ) (tiling : Tiling) (list : TileList)
    → IsTileListOf ts params tiling list → HasWaves tiling (visits ts params) (length list.offsets.items - 1)
waves_counted ts params tiling list is =
    let xs = firsts_of list.tiles.items in
    let ns = waves_of list.tiles.items in
    let count = is.offsets.count in
    let same : waves_in ns ≡ length list.offsets.items - 1 = omega (arith, count) in
    of_firsts (wave_of tiling) ts params tiling list (length list.offsets.items - 1) (λ x y one. one.wave) is
    (subst (HasWaves tiling xs) same (numbered_waves tiling xs ns is.waves))
