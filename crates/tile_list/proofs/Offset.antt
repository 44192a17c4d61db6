-- Offsets of waves whose numbers rise from 0 one by one.
use Rattle.scop_syntax.proofs.Common.{◌≡◌, ℕ, zero, suc, ◌+◌, ◌<◌, ◌≤◌, true, false, List, [], ◌∷◌, length, inl, inr}
use Rattle.scop_syntax.proofs.Common.{Some, ap, subst, arith, ◌⊎◌, if◌then◌else◌, max, nat_le, slice_get, ⊤, nat_tests}
use Rattle.scop_syntax.proofs.Common.{Instance}
use Rattle.loop_tree.specs.Tiling.{Tiling}
use Rattle.tile_list.specs.Tiles.{AreNextWaves, AreOffsets, AreWaves, waves_in}
use Rattle.tile_list.specs.steps.Offsets.{offsets_from}

-- behind w waves, each number is that of the last wave or of a new one
abbrev pub Rises : ℕ → List ℕ → Type 0
Rises w [] = ⊤
Rises w (n ∷ ns) = ((suc n ≡ w) ⊎ (n ≡ w)) × Rises (suc n) ns

next_rises : (tiling : Tiling) (x : Instance) (m : ℕ) (xs : List Instance) (ns : List ℕ)
    → AreNextWaves tiling x m xs ns → Rises (suc m) ns
next_rises tiling x m [] [] h = tt
next_rises tiling x m [] (n ∷ ns) h = absurd h
next_rises tiling x m (y ∷ ys) [] h = absurd h
next_rises tiling x m (y ∷ ys) (n ∷ ns) (inl a, h) = (inl (ap suc a.1), next_rises tiling y n ys ns h)
next_rises tiling x m (y ∷ ys) (n ∷ ns) (inr a, h) = (inr a.1, next_rises tiling y n ys ns h)

pub waves_rise : (tiling : Tiling) (xs : List Instance) (ns : List ℕ) → AreWaves tiling xs ns → Rises 0 ns
waves_rise tiling [] [] h = tt
waves_rise tiling [] (n ∷ ns) h = absurd h
waves_rise tiling (x ∷ xs) [] h = absurd h
waves_rise tiling (x ∷ xs) (n ∷ ns) h = (inr h.0, next_rises tiling x n xs ns h.1)

-- later numbers are no less
rises_up : (n : ℕ) (ns : List ℕ) (i m : ℕ) → Rises (suc n) ns → slice_get ns i ≡ Some m → n ≤ m
rises_up n [] zero m h e = absurd cc
rises_up n [] (suc i) m h e = absurd cc
rises_up n (k ∷ ns) zero m (inl a, h) e = let same : k ≡ m = cc in omega (arith, a, same)
rises_up n (k ∷ ns) zero m (inr a, h) e = let same : k ≡ m = cc in omega (arith, a, same)
rises_up n (k ∷ ns) (suc i) m (inl a, h) e = let up = rises_up k ns i m h e in omega (arith, a, up)
rises_up n (k ∷ ns) (suc i) m (inr a, h) e = let up = rises_up k ns i m h e in omega (arith, a, up)

-- at a new wave, and within one
new_wave : (t w n : ℕ) (ns : List ℕ) → n ≡ w
    → offsets_from t w (n ∷ ns) ≡ t ∷ offsets_from (suc t) (suc w) ns
new_wave t w n ns e =
    let test : nat_le w n ≡ true = grind (arith, nat_tests) in
    ap (λ b. if b then t ∷ offsets_from (suc t) (suc w) ns else offsets_from (suc t) w ns) test

same_wave : (t w n : ℕ) (ns : List ℕ) → suc n ≡ w → offsets_from t w (n ∷ ns) ≡ offsets_from (suc t) w ns
same_wave t w n ns e =
    let test : nat_le w n ≡ false = grind (arith, nat_tests) in
    ap (λ b. if b then t ∷ offsets_from (suc t) (suc w) ns else offsets_from (suc t) w ns) test

-- k is the offset of wave w among tiles from tile t on
record IsOffsetFrom (ns : List ℕ) (t w k : ℕ) : Type 0 where
  pub low : t ≤ k
  pub high : k ≤ t + length ns
  pub before : (i n : ℕ) → t + i < k → slice_get ns i ≡ Some n → n < w
  pub behind : (i n : ℕ) → k ≤ t + i → slice_get ns i ≡ Some n → w ≤ n

-- the first tile of a new wave
here : (ns : List ℕ) (n t w : ℕ) → n ≡ w → Rises (suc n) ns → IsOffsetFrom (n ∷ ns) t w t
here ns n t w e h =
    record {
      low = omega arith;
      high = omega arith;
      before = λ i m less g. absurd (omega (arith, less));
      behind = λ i m up g. from i m g;
    }
  where
    from : (i m : ℕ) → slice_get (n ∷ ns) i ≡ Some m → w ≤ m
    from zero m g = let same : n ≡ m = cc in omega (arith, e, same)
    from (suc i) m g = let up = rises_up n ns i m h g in omega (arith, e, up)

-- a tile in front
in_front : (ns : List ℕ) (n t w k : ℕ) → n < w → IsOffsetFrom ns (suc t) w k → IsOffsetFrom (n ∷ ns) t w k
in_front ns n t w k small h =
    let low = h.low in
    let high = h.high in
    record {
      low = omega (arith, low);
      high = omega (arith, high);
      before = before;
      behind = behind;
    }
  where
    before : (i m : ℕ) → t + i < k → slice_get (n ∷ ns) i ≡ Some m → m < w
    before zero m less g = let same : n ≡ m = cc in omega (arith, small, same)
    before (suc i) m less g = h.before i m (omega (arith, less)) g

    behind : (i m : ℕ) → k ≤ t + i → slice_get (n ∷ ns) i ≡ Some m → w ≤ m
    behind zero m up g = let low = h.low in absurd (omega (arith, low, up))
    behind (suc i) m up g = h.behind i m (omega (arith, up)) g

offsets_right : (ns : List ℕ) (t w : ℕ) → Rises w ns → (v k : ℕ) → slice_get (offsets_from t w ns) v ≡ Some k
    → IsOffsetFrom ns t (w + v) k
offsets_right [] t w h zero k g =
    let same : t ≡ k = cc in
    record {
      low = omega (arith, same);
      high = omega (arith, same);
      before = λ i n less e. absurd (none i n e);
      behind = λ i n up e. absurd (none i n e);
    }
  where
    none : (i n : ℕ) → slice_get [] i ≡ Some n → ⊥
    none zero n e = cc
    none (suc i) n e = cc
offsets_right [] t w h (suc v) k g = absurd (none v k g)
  where
    none : (i n : ℕ) → slice_get [] i ≡ Some n → ⊥
    none zero n e = cc
    none (suc i) n e = cc
offsets_right (n ∷ ns) t w (inr e, h) zero k g =
    let first : slice_get (t ∷ offsets_from (suc t) (suc w) ns) 0 ≡ Some k =
    subst (λ (os : List ℕ). slice_get os 0 ≡ Some k) (new_wave t w n ns e) g in
    let same : t ≡ k = cc in
    let sum : w ≡ w + 0 = omega arith in
    subst (IsOffsetFrom (n ∷ ns) t (w + 0)) same
    (subst (λ u. IsOffsetFrom (n ∷ ns) t u t) sum (here ns n t w e h))
offsets_right (n ∷ ns) t w (inr e, h) (suc v) k g =
    let later : slice_get (offsets_from (suc t) (suc w) ns) v ≡ Some k =
    subst (λ (os : List ℕ). slice_get os (suc v) ≡ Some k) (new_wave t w n ns e) g in
    let sum : suc w + v ≡ w + suc v = omega arith in
    let rises : Rises (suc w) ns = subst (λ m. Rises (suc m) ns) e h in
    let less : n < w + suc v = omega (arith, e) in
    in_front ns n t (w + suc v) k less
    (subst (λ u. IsOffsetFrom ns (suc t) u k) sum (offsets_right ns (suc t) (suc w) rises v k later))
offsets_right (n ∷ ns) t w (inl e, h) v k g =
    let later : slice_get (offsets_from (suc t) w ns) v ≡ Some k =
    subst (λ (os : List ℕ). slice_get os v ≡ Some k) (same_wave t w n ns e) g in
    let rises : Rises w ns = subst (λ m. Rises m ns) e h in
    let less : n < w + v = omega (arith, e) in
    in_front ns n t (w + v) k less (offsets_right ns (suc t) w rises v k later)

offsets_count : (ns : List ℕ) (t w : ℕ) → Rises w ns
    → length (offsets_from t w ns) + w ≡ suc (max w (waves_in ns))
offsets_count [] t w h = omega arith
offsets_count (n ∷ ns) t w (inr e, h) =
    let rest = offsets_count ns (suc t) (suc w) (subst (λ m. Rises (suc m) ns) e h) in
    let all = ap (λ (os : List ℕ). length os) (new_wave t w n ns e) in
    omega (arith, rest, all, e)
offsets_count (n ∷ ns) t w (inl e, h) =
    let rest = offsets_count ns (suc t) w (subst (λ m. Rises m ns) e h) in
    let all = ap (λ (os : List ℕ). length os) (same_wave t w n ns e) in
    omega (arith, rest, all, e)

pub offsets_are : (ns : List ℕ) → Rises 0 ns → AreOffsets ns (offsets_from 0 0 ns)
offsets_are ns h =
    record {
      count = let c = offsets_count ns 0 0 h in omega (arith, c);
      are = λ w k g.
          let o = offsets_right ns 0 0 h w k g in
          let high = o.high in
          record {
            few = omega (arith, high);
            before = λ t n less e. let b = o.before t n (omega (arith, less)) e in omega (arith, b);
            behind = λ t n up e. let b = o.behind t n (omega (arith, up)) e in omega (arith, b);
          };
    }
