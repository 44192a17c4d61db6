-- What is cut off grows instance by instance.
use Rattle.scop_syntax.proofs.Common.{◌≡◌, ◌∙◌, ℕ, suc, ◌+◌, ℤ, List, [], ◌∷◌, ◌++◌, length, drop, inl, inr, refl, ap}
use Rattle.scop_syntax.proofs.Common.{ap₂, subst, sym, arith, Some, map-append, All-nil, LexLess, LexLess-irrefl, In}
use Rattle.scop_syntax.proofs.Common.{instance_of, Instance}
use Rattle.std.proofs.lemmas.List.{length-append}
use Rattle.scop_syntax.specs.declared.instance.Instance.{Instance as CodeInstance}
use Rattle.loop_tree.specs.Braids.{IsBraid, left_of_braid}
use Rattle.loop_tree.specs.Conditions.{IsHeld}
use Rattle.loop_tree.specs.Spot.{rest_of}
use Rattle.loop_tree.specs.SpotView.{IsSpotOf, marks_in, to_come}
use Rattle.loop_tree.specs.Stretches.{left_of}
use Rattle.loop_tree.specs.Tiling.{Tiling, kept, tiled, wave_of}
use Rattle.loop_tree.specs.Tree.{Trees}
use Rattle.loop_tree.specs.Walk.{visits}
use Rattle.loop_tree.specs.declared.braid.Braid.{Braid}
use Rattle.loop_tree.specs.declared.spot.Spot.{Spot}
use Rattle.loop_tree.proofs.Stretches.{nothing_left}
use Rattle.tile_list.specs.Tiles.{AreWaves, IsNextWave, RiseByTile, TileBefore, joined}
use Rattle.tile_list.specs.TilesView.{IsPlaceOf, IsTile, firsts_of, to_come_at, waves_of}
use Rattle.tile_list.specs.steps.Cutting.{AreTilesOf, HasBegun, HasGrown, IsCut, IsCutTo, IsNewTile, IsWaveOf}
use Rattle.tile_list.specs.steps.Cutting.{Takes}
use Rattle.tile_list.specs.steps.Keys.{IsKeyOf}
use Rattle.tile_list.specs.steps.Placing.{HasCome}
use Rattle.tile_list.specs.steps.Stretching.{AllHaveKey, Passes}
use Rattle.tile_list.specs.declared.cutting.Cut.{Cut}
use Rattle.tile_list.specs.declared.keys.Key.{Key}
use Rattle.tile_list.specs.declared.list.Tile.{Tile}
use Rattle.tile_list.specs.declared.place.Front.{Front}
use Rattle.tile_list.specs.declared.place.Place.{Place}
use Rattle.tile_list.proofs.Stretches.{length-left}
use Rattle.tile_list.proofs.TellingKeys.{key_tells, tells_key, tells_waves, waves_tell}
use Rattle.tile_list.proofs.ListedTiles.{tile_more}
use Rattle.tile_list.proofs.Parts.{grown, next_begun, next_rises}
use Rattle.tile_list.proofs.Waves.{wave_more}

-- a tile with so many instances more
tile_grown : (ts : Trees) (params : List ℤ) (k : ℕ) (x : Instance) (more ys : List Instance)
    (old new : Tile) → IsTile ts params k (x ∷ more) old → new.first ≡ old.first
    → new.place ≡ old.place → new.size ≡ old.size + length ys
    → IsTile ts params k (x ∷ (more ++ ys)) new
tile_grown ts params k x more ys old new is first place size =
    record {
      first = is.first ∙ sym (ap (λ (i : CodeInstance). Some (instance_of i)) first);
      size = let l = length-append more ys in
          let s = is.size in
          omega (arith, size, s, l);
      place = subst (λ (p : Place). IsPlaceOf ts params p) (sym place) is.place;
      behind = ap (λ (p : Place). to_come_at ts params p) place ∙ is.behind;
    }

behind_all : (front : List Instance) (y : Instance) (rest : List Instance)
    → drop (suc (length front)) (front ++ y ∷ rest) ≡ rest
behind_all [] y rest = refl
behind_all (x ∷ front) y rest = behind_all front y rest

-- a new tile
pub tile_begun : (ts : Trees) (params : List ℤ) (passed : List Instance) (first : CodeInstance) (front : Front)
    (spot : Spot) (n : ℕ) (tile : Tile) → IsNewTile first front spot n tile → HasCome ts params front spot
    → passed ++ instance_of first ∷ to_come ts params spot ≡ visits ts params
    → IsTile ts params (length passed) (instance_of tile.first ∷ []) tile
tile_begun ts params passed first front spot n tile new come all =
    let place = new.place_is ts params come in
    record {
      first = refl;
      size = new.size;
      place = place.0;
      behind = place.1
          ∙ (sym (behind_all passed (instance_of first) (to_come ts params spot))
          ∙ ap (drop (suc (length passed))) all);
    }

-- the next instances are in the current tile
pub takes_all : (tiling : Tiling) (ys : List Instance) (count : ℕ) (old new : Cut) → count ≡ length ys
    → ((y : Instance) → In y ys → IsKeyOf tiling y old.key) → HasGrown count old new
    → (ts : Trees) (params : List ℤ) (rest : List Instance)
    → IsCutTo ts params tiling (ys ++ rest) old → IsCutTo ts params tiling rest new
takes_all tiling ys count old new all_are one has ts params rest cut =
    let x = instance_of old.current.first in
    let all = cut.more ++ ys in
    let same : instance_of new.current.first ≡ x = ap instance_of has.first in
    record {
      closed = cut.closed;
      more = all;
      parts = subst (λ z. IsCut tiling (visits ts params) cut.closed z all rest) (sym same)
          (grown tiling (visits ts params) cut.closed x cut.more ys rest cut.parts
          (λ y i. key_tells tiling x y old.key cut.key (one y i)));
      tiles = subst (AreTilesOf ts params cut.closed) (sym has.tiles) cut.tiles;
      last = subst (λ z. IsTile ts params (length (joined cut.closed)) (z ∷ all) new.current) (sym same)
          (tile_grown ts params (length (joined cut.closed)) x cut.more ys old.current new.current cut.last has.first
          has.place (has.size ∙ ap (λ (n : ℕ). old.current.size + n) all_are));
      waves = subst (λ (us : List Tile). AreWaves tiling (firsts_of us ++ instance_of new.current.first ∷ [])
          (waves_of us ++ new.current.wave ∷ [])) (sym has.tiles)
          (subst (λ z. AreWaves tiling (firsts_of old.tiles.items ++ z ∷ [])
          (waves_of old.tiles.items ++ new.current.wave ∷ [])) (sym same)
          (subst (λ n. AreWaves tiling (firsts_of old.tiles.items ++ x ∷ []) (waves_of old.tiles.items ++ n ∷ []))
          (sym has.wave) cut.waves));
      key = subst (λ z. IsKeyOf tiling z new.key) (sym same) (subst (IsKeyOf tiling x) (sym has.key) cut.key);
    }

-- the next instance is in the current tile
pub takes_same : (tiling : Tiling) (y : Instance) (front : Front) (spot : Spot) (old new : Cut)
    → IsKeyOf tiling y old.key → HasGrown 1 old new → Takes tiling y front spot old new
takes_same tiling y front spot old new is has =
    record {
      cut = λ ts params rise come. takes_all tiling (y ∷ []) 1 old new refl one has ts params
          (to_come ts params spot);
      key = subst (IsKeyOf tiling y) (sym has.key) is;
    }
  where
    one : (z : Instance) → In z (y ∷ []) → IsKeyOf tiling z old.key
    one z (inl e) = subst (λ x. IsKeyOf tiling x old.key) (sym e) is
    one z (inr j) = absurd j

-- the number of the next wave
next_number : (tiling : Tiling) (x y : Instance) (cut : Cut) (n : ℕ) → IsKeyOf tiling x cut.key
    → IsKeyOf tiling y cut.next → IsWaveOf cut n → TileBefore tiling x y
    → IsNextWave tiling x cut.current.wave y n
next_number kept x y cut n is are wave (inl less) = absurd less
next_number kept x y cut n is are wave (inr less) = absurd less.1
next_number (tiled size statements) x y cut n is are wave (inl less) =
    let tiling = tiled size statements in
    let one = wave.other (λ e. LexLess-irrefl (wave_of tiling y)
    (subst (λ w. LexLess w (wave_of tiling y)) (waves_tell size statements x y cut.key cut.next is are e) less)) in
    inr (less, omega (arith, one))
next_number (tiled size statements) x y cut n is are wave (inr less) =
    inl (less.0, wave.same (tells_waves size statements x y cut.key cut.next is are less.0))

-- the next instance begins a tile
begins_next : (tiling : Tiling) (first : CodeInstance) (front : Front) (spot : Spot) (old new : Cut) (next : Key)
    → IsKeyOf tiling (instance_of first) next → (IsKeyOf tiling (instance_of first) old.key → ⊥)
    → HasBegun first front spot (record old { next = next }) new
    → (ts : Trees) (params : List ℤ) → RiseByTile tiling (visits ts params) → HasCome ts params front spot
    → IsCutTo ts params tiling (instance_of first ∷ to_come ts params spot) old
    → IsCutTo ts params tiling (to_come ts params spot) new
begins_next tiling first front spot old new next is other has ts params rise come cut =
    let x = instance_of old.current.first in
    let y = instance_of first in
    let rest = to_come ts params spot in
    let all = cut.closed ++ (x ∷ cut.more) ∷ [] in
    let tile = has.current.2 in
    let same : instance_of new.current.first ≡ y = ap instance_of tile.first_is in
    let less : TileBefore tiling x y =
    elim (next_rises tiling (visits ts params) cut.closed x cut.more y rest rise cut.parts) [
      | inl one ↦ absurd (other (tells_key tiling x y old.key one cut.key))
      | inr before ↦ before
    ] in
    let parts = next_begun tiling (visits ts params) cut.closed x cut.more y rest cut.parts less in
    let number : IsNextWave tiling x old.current.wave y has.current.0 =
    next_number tiling x y (record old { next = next }) has.current.0 cut.key is has.current.1 less in
    record {
      closed = all;
      more = [];
      parts = subst (λ z. IsCut tiling (visits ts params) all z [] rest) (sym same) parts;
      tiles = subst (AreTilesOf ts params all) (sym has.tiles)
          (tile_more ts params cut.closed old.tiles.items (x ∷ cut.more) old.current cut.tiles cut.last);
      last = tile_begun ts params (joined all) first front spot has.current.0 new.current tile come parts.all;
      waves = subst (λ (us : List Tile). AreWaves tiling (firsts_of us ++ instance_of new.current.first ∷ [])
          (waves_of us ++ new.current.wave ∷ [])) (sym has.tiles)
          (numbered ts params same (tile.wave_is) number cut);
      key = subst (λ z. IsKeyOf tiling z new.key) (sym same) (subst (IsKeyOf tiling y) (sym has.key) is);
    }
  where
    numbered : (ts : Trees) (params : List ℤ) {rest : List Instance}
        → instance_of new.current.first ≡ instance_of first → {n : ℕ} → new.current.wave ≡ n
        → IsNextWave tiling (instance_of old.current.first) old.current.wave (instance_of first) n
        → IsCutTo ts params tiling rest old
        → AreWaves tiling (firsts_of (old.tiles.items ++ old.current ∷ []) ++ instance_of new.current.first ∷ [])
        (waves_of (old.tiles.items ++ old.current ∷ []) ++ new.current.wave ∷ [])
    numbered ts params {rest} same {n} wave number cut =
        let ts = old.tiles.items in
        let more = wave_more tiling (firsts_of ts) (waves_of ts) (instance_of old.current.first) old.current.wave
        (instance_of first) n cut.waves number in
        let firsts = map-append (λ (t : Tile). instance_of t.first) ts (old.current ∷ []) in
        let waves = map-append (λ (t : Tile). t.wave) ts (old.current ∷ []) in
        subst (λ (us : List Instance). AreWaves tiling (us ++ instance_of new.current.first ∷ [])
        (waves_of (ts ++ old.current ∷ []) ++ new.current.wave ∷ [])) (sym firsts)
        (subst (λ (ns : List ℕ). AreWaves tiling
        ((firsts_of ts ++ instance_of old.current.first ∷ []) ++ instance_of new.current.first ∷ [])
        (ns ++ new.current.wave ∷ [])) (sym waves)
        (subst (λ z. AreWaves tiling ((firsts_of ts ++ instance_of old.current.first ∷ []) ++ z ∷ [])
        ((waves_of ts ++ old.current.wave ∷ []) ++ new.current.wave ∷ [])) (sym same)
        (subst (λ k. AreWaves tiling ((firsts_of ts ++ instance_of old.current.first ∷ []) ++ instance_of first ∷ [])
        ((waves_of ts ++ old.current.wave ∷ []) ++ k ∷ [])) (sym wave) more)))

-- so is it taken
pub takes_next : (tiling : Tiling) (first : CodeInstance) (front : Front) (spot : Spot) (old new : Cut) (next : Key)
    → IsKeyOf tiling (instance_of first) next → (IsKeyOf tiling (instance_of first) old.key → ⊥)
    → HasBegun first front spot (record old { next = next }) new → Takes tiling (instance_of first) front spot old new
takes_next tiling first front spot old new next is other has =
    record {
      cut = begins_next tiling first front spot old new next is other has;
      key = subst (IsKeyOf tiling (instance_of first)) (sym has.key) is;
    }

-- what a spot passes is in the current tile
passes : (tiling : Tiling) (passed spot : Spot) (ys : List Instance) (count : ℕ) (old new : Cut)
    → ((ts : Trees) (params : List ℤ) → IsSpotOf ts params passed → IsSpotOf ts params spot)
    → ((ts : Trees) (params : List ℤ) → to_come ts params passed ≡ ys ++ to_come ts params spot)
    → count ≡ length ys → ((y : Instance) → In y ys → IsKeyOf tiling y old.key)
    → HasGrown count old new → Passes tiling passed spot old new
passes tiling passed spot ys count old new spots all count_is one has =
    record {
      spots = spots;
      fewer = λ ts params. let e = ap (λ (xs : List Instance). length xs) (all ts params) in
          let l = length-append ys (to_come ts params spot) in
          omega (arith, e, l);
      cut = λ ts params is. takes_all tiling ys count old new count_is one has ts params (to_come ts params spot)
          (subst (λ (xs : List Instance). IsCutTo ts params tiling xs old) (all ts params) is);
    }

-- what is left of its stretch
pub passes_stretch : (tiling : Tiling) (spot : Spot) (old new : Cut)
    → AllHaveKey tiling old.key spot.stretch → HasGrown spot.stretch.left old new
    → Passes tiling spot (record spot { stretch = record spot.stretch { left = 0 } }) old new
passes_stretch tiling spot old new =
    let s = spot.stretch in
    passes tiling spot (record spot { stretch = record s { left = 0 } }) (left_of s) s.left old new
    (λ ts params is. record {
      room = is.room;
      stands = is.stands;
      held = All-nil IsHeld;
      braid = is.braid;
    })
    (λ ts params. refl) (sym (length-left s))

-- what is left of its braid
pub passes_braid : (tiling : Tiling) (spot : Spot) (b : Braid) (count : ℕ) (old new : Cut)
    → spot.stretch.left ≡ 0 → left_of_braid b ≡ [] → IsBraid b → count ≡ length (left_of_braid spot.braid)
    → ((y : Instance) → In y (left_of_braid spot.braid) → IsKeyOf tiling y old.key)
    → HasGrown count old new → Passes tiling spot (record spot { braid = b }) old new
passes_braid tiling spot b count old new empty none is_braid =
    let xs = left_of_braid spot.braid in
    let rest : Trees → List ℤ → List Instance = λ ts params. rest_of ts (marks_in spot) params [] in
    let gone = nothing_left spot.stretch empty in
    passes tiling spot (record spot { braid = b }) xs count old new
    (λ ts params is. record {
      room = is.room;
      stands = is.stands;
      held = is.held;
      braid = is_braid;
    })
    (λ ts params. ap (λ (ys : List Instance). ys ++ (xs ++ rest ts params)) gone
    ∙ sym (ap₂ (λ (ys zs : List Instance). xs ++ (ys ++ (zs ++ rest ts params))) gone none))
