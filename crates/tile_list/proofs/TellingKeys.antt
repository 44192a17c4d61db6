-- Keys tell tiles and waves: instances of one tile have one key, and one key is that of one tile. A coordinate tells an
-- interval.
use Rattle.scop_syntax.proofs.Common.{◌≡◌, ◌∙◌, ◌≤◌, ℕ, ℤ, pos, List, [], ◌∷◌, ◌++◌, length, map, refl, ap, ap₂, subst}
use Rattle.scop_syntax.proofs.Common.{sym, arith, ◌+ℤ◌, ◌*ℤ◌, ◌≤ℤ◌, ◌<ℤ◌, if◌then◌else◌, ints, append_cancel_left}
use Rattle.scop_syntax.proofs.Common.{value_of, IsFloor, floor, floor_is, floor_unique, Instance}
use Rattle.std.proofs.lemmas.List.{length-append}
use Rattle.loop_tree.specs.Tiling.{Items, TileRow, Tiling, kept, tiled, coordinates, items_at, wave_of, wave_sum}
use Rattle.tile_list.specs.Tiles.{InOneTile}
use Rattle.tile_list.specs.steps.Keys.{HaveOneWave, IsKeyOf, carried}
use Rattle.tile_list.specs.declared.keys.Key.{Key}

-- what rows that carry add up to is the sum of the wave
pub carried_is : (d : ℤ) (rows : List TileRow) (turns : List ℤ)
    → carried rows (coordinates d rows turns) ≡ wave_sum d rows turns
carried_is d [] turns = refl
carried_is d (r ∷ rows) turns =
    ap (λ (z : ℤ). (if r.carries then floor (value_of r.form turns) d else pos 0) +ℤ z) (carried_is d rows turns)

-- lists with one number more at the end
ends_same : (xs ys : List ℕ) (a b : ℤ) → map pos xs ++ a ∷ [] ≡ map pos ys ++ b ∷ [] → (xs ≡ ys) × (a ≡ b)
ends_same [] [] a b e = (refl, cc)
ends_same [] (y ∷ ys) a b e =
    let l = ap (λ (zs : List ℤ). length zs) e in
    let k = length-append (map pos ys) (b ∷ []) in
    absurd (omega (arith, l, k))
ends_same (x ∷ xs) [] a b e =
    let l = ap (λ (zs : List ℤ). length zs) e in
    let k = length-append (map pos xs) (a ∷ []) in
    absurd (omega (arith, l, k))
ends_same (x ∷ xs) (y ∷ ys) a b e =
    let head : pos x ≡ pos y = cc in
    let tail : map pos xs ++ a ∷ [] ≡ map pos ys ++ b ∷ [] = cc in
    let same : x ≡ y = omega (arith, ints, head) in
    let rest = ends_same xs ys a b tail in
    (ap₂ (λ (n : ℕ) (ns : List ℕ). n ∷ ns) same rest.0, rest.1)

-- one key is that of one tile
pub key_tells : (tiling : Tiling) (x y : Instance) (key : Key) → IsKeyOf tiling x key → IsKeyOf tiling y key
    → InOneTile tiling x y
key_tells kept x y key is are = record { wave = refl; tile = refl }
key_tells (tiled size statements) x y key is are =
    let front = sym is.leading ∙ are.leading in
    record {
      wave = ap₂ (λ (ns : List ℕ) (z : ℤ). map pos ns ++ z ∷ []) front (sym is.sum ∙ are.sum);
      tile = ap₂ (λ (ns : List ℕ) (zs : List ℤ). map pos ns ++ zs) front (sym is.tile ∙ are.tile);
    }

-- and instances of one tile have one key
pub tells_key : (tiling : Tiling) (x y : Instance) (key : Key) → InOneTile tiling x y → IsKeyOf tiling x key
    → IsKeyOf tiling y key
tells_key kept x y key one is = tt
tells_key (tiled size statements) x y key one is =
    let here = items_at statements x.number in
    let there = items_at statements y.number in
    let at = coordinates (pos size) here.band x.turns in
    let same = ends_same here.leading there.leading (wave_sum (pos size) here.band x.turns)
    (wave_sum (pos size) there.band y.turns) one.wave in
    record {
      leading = is.leading ∙ same.0;
      sum = is.sum ∙ same.1;
      tile = is.tile
          ∙ append_cancel_left (map pos here.leading) at (coordinates (pos size) there.band y.turns)
          (subst (λ (ns : List ℕ). map pos here.leading ++ at
          ≡ map pos ns ++ coordinates (pos size) there.band y.turns) (sym same.0) one.tile);
    }

-- keys tell whether waves are one
pub waves_tell : (size : ℕ) (statements : List Items) (x y : Instance) (key next : Key)
    → IsKeyOf (tiled size statements) x key → IsKeyOf (tiled size statements) y next → HaveOneWave next key
    → wave_of (tiled size statements) x ≡ wave_of (tiled size statements) y
waves_tell size statements x y key next is are one =
    ap₂ (λ (ns : List ℕ) (z : ℤ). map pos ns ++ z ∷ []) (sym is.leading ∙ (sym one.leading ∙ are.leading))
    (sym is.sum ∙ (sym one.sum ∙ are.sum))

pub tells_waves : (size : ℕ) (statements : List Items) (x y : Instance) (key next : Key)
    → IsKeyOf (tiled size statements) x key → IsKeyOf (tiled size statements) y next
    → wave_of (tiled size statements) x ≡ wave_of (tiled size statements) y → HaveOneWave next key
tells_waves size statements x y key next is are one =
    let here = items_at statements x.number in
    let there = items_at statements y.number in
    let same = ends_same here.leading there.leading (wave_sum (pos size) here.band x.turns)
    (wave_sum (pos size) there.band y.turns) one in
    record {
      leading = are.leading ∙ (sym same.0 ∙ sym is.leading);
      sum = are.sum ∙ (sym same.1 ∙ sym is.sum);
    }

-- a number lies in the interval of its coordinate, and of no other
pub within : (value coordinate : ℤ) (size : ℕ) → 1 ≤ size → (coordinate *ℤ pos size) ≤ℤ value
    → value <ℤ ((coordinate *ℤ pos size) +ℤ pos size) → floor value (pos size) ≡ coordinate
within value coordinate size some low high =
    let up : pos 0 <ℤ pos size = omega (arith, ints, some) in
    floor_unique value (pos size) (floor value (pos size)) coordinate up (floor_is value (pos size) up)
    (record { below = low; above = omega (arith, ints, high) })

pub in_interval : (value coordinate : ℤ) (size : ℕ) → 1 ≤ size → floor value (pos size) ≡ coordinate
    → ((coordinate *ℤ pos size) ≤ℤ value) × (value <ℤ ((coordinate *ℤ pos size) +ℤ pos size))
in_interval value coordinate size some is =
    let up : pos 0 <ℤ pos size = omega (arith, ints, some) in
    let floored = subst (λ (z : ℤ). IsFloor value (pos size) z) is (floor_is value (pos size) up) in
    let above = floored.above in
    (floored.below, omega (arith, ints, above))
