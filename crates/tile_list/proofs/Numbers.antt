-- What the numbers of waves tell of the waves.
use Rattle.scop_syntax.proofs.Common.{◌≡◌, ◌∙◌, ℕ, zero, suc, ◌<◌, ◌≤◌, List, [], ◌∷◌, inl, inr, refl, ap, Some, sym}
use Rattle.scop_syntax.proofs.Common.{subst, arith, ◌⊎◌, slice_get, LexLess, LexLess-asym, LexLess-irrefl}
use Rattle.scop_syntax.proofs.Common.{LexLess-trans, Instance, nat_cases}
use Rattle.loop_tree.specs.Tiling.{Tiling, wave_of}
use Rattle.tile_list.specs.Tiles.{AreNextWaves, AreWaves, IsNextWave}

-- the wave of the later one is the same, and so is its number, or both are greater
abbrev Tells : Tiling → Instance → ℕ → Instance → ℕ → Type 0
Tells tiling x m y n =
    ((wave_of tiling x ≡ wave_of tiling y) × (m ≡ n)) ⊎ (LexLess (wave_of tiling x) (wave_of tiling y) × (m < n))

next_tells : (tiling : Tiling) (x : Instance) (m : ℕ) (y : Instance) (n : ℕ) → IsNextWave tiling x m y n
    → Tells tiling x m y n
next_tells tiling x m y n (inl h) = inl (h.0, sym h.1)
next_tells tiling x m y n (inr h) = let one = h.1 in inr (h.0, omega (arith, one))

then_tells : (tiling : Tiling) (x : Instance) (m : ℕ) (y : Instance) (n : ℕ) (z : Instance) (o : ℕ)
    → Tells tiling x m y n → Tells tiling y n z o → Tells tiling x m z o
then_tells tiling x m y n z o (inl h) (inl k) = inl (h.0 ∙ k.0, h.1 ∙ k.1)
then_tells tiling x m y n z o (inl h) (inr k) =
    let e = h.1 in
    let l = k.1 in
    inr (subst (λ w. LexLess w (wave_of tiling z)) (sym h.0) k.0, omega (arith, e, l))
then_tells tiling x m y n z o (inr h) (inl k) =
    let e = k.1 in
    let l = h.1 in
    inr (subst (LexLess (wave_of tiling x)) k.0 h.0, omega (arith, e, l))
then_tells tiling x m y n z o (inr h) (inr k) =
    let a = h.1 in
    let b = k.1 in
    inr (LexLess-trans (wave_of tiling x) (wave_of tiling y) (wave_of tiling z) h.0 k.0, omega (arith, a, b))

-- each later wave
later_tells : (tiling : Tiling) (x : Instance) (m : ℕ) (ys : List Instance) (ns : List ℕ) (u : ℕ) (y : Instance)
    (n : ℕ) → AreNextWaves tiling x m ys ns → slice_get ys u ≡ Some y → slice_get ns u ≡ Some n
    → Tells tiling x m y n
later_tells tiling x m [] [] zero y n h e f = absurd cc
later_tells tiling x m [] [] (suc u) y n h e f = absurd cc
later_tells tiling x m [] (k ∷ ns) u y n h e f = absurd h
later_tells tiling x m (z ∷ ys) [] u y n h e f = absurd h
later_tells tiling x m (z ∷ ys) (k ∷ ns) zero y n h e f =
    let one : z ≡ y = cc in
    let two : k ≡ n = cc in
    subst (Tells tiling x m y) two (subst (λ w. Tells tiling x m w k) one (next_tells tiling x m z k h.0))
later_tells tiling x m (z ∷ ys) (k ∷ ns) (suc u) y n h e f =
    then_tells tiling x m z k y n (next_tells tiling x m z k h.0) (later_tells tiling z k ys ns u y n h.1 e f)

-- so do any two waves
next_pair : (tiling : Tiling) (w : Instance) (o : ℕ) (xs : List Instance) (ns : List ℕ) → AreNextWaves tiling w o xs ns
    → (t u m n : ℕ) (x y : Instance) → t < u → slice_get xs t ≡ Some x → slice_get xs u ≡ Some y
    → slice_get ns t ≡ Some m → slice_get ns u ≡ Some n → Tells tiling x m y n
next_pair tiling w o [] [] h zero u m n x y less e f g i = absurd cc
next_pair tiling w o [] [] h (suc t) u m n x y less e f g i = absurd cc
next_pair tiling w o [] (k ∷ ns) h t u m n x y less e f g i = absurd h
next_pair tiling w o (z ∷ xs) [] h t u m n x y less e f g i = absurd h
next_pair tiling w o (z ∷ xs) (k ∷ ns) h t zero m n x y less e f g i = absurd (omega (arith, less))
next_pair tiling w o (z ∷ xs) (k ∷ ns) h zero (suc u) m n x y less e f g i =
    let one : z ≡ x = cc in
    let two : k ≡ m = cc in
    subst (λ l. Tells tiling x l y n) two
    (subst (λ v. Tells tiling v k y n) one (later_tells tiling z k xs ns u y n h.1 f i))
next_pair tiling w o (z ∷ xs) (k ∷ ns) h (suc t) (suc u) m n x y less e f g i =
    next_pair tiling z k xs ns h.1 t u m n x y (omega (arith, less)) e f g i

pub waves_pair : (tiling : Tiling) (xs : List Instance) (ns : List ℕ) → AreWaves tiling xs ns
    → (t u m n : ℕ) (x y : Instance) → t < u → slice_get xs t ≡ Some x → slice_get xs u ≡ Some y
    → slice_get ns t ≡ Some m → slice_get ns u ≡ Some n → Tells tiling x m y n
waves_pair tiling [] [] h zero u m n x y less e f g i = absurd cc
waves_pair tiling [] [] h (suc t) u m n x y less e f g i = absurd cc
waves_pair tiling [] (k ∷ ns) h t u m n x y less e f g i = absurd h
waves_pair tiling (z ∷ xs) [] h t u m n x y less e f g i = absurd h
waves_pair tiling (z ∷ xs) (k ∷ ns) h t zero m n x y less e f g i = absurd (omega (arith, less))
waves_pair tiling (z ∷ xs) (k ∷ ns) h zero (suc u) m n x y less e f g i =
    let one : z ≡ x = cc in
    let two : k ≡ m = cc in
    subst (λ l. Tells tiling x l y n) two
    (subst (λ v. Tells tiling v k y n) one (later_tells tiling z k xs ns u y n h.1 f i))
waves_pair tiling (z ∷ xs) (k ∷ ns) h (suc t) (suc u) m n x y less e f g i =
    next_pair tiling z k xs ns h.1 t u m n x y (omega (arith, less)) e f g i

-- one place has one element
one_there : {A : Type 0} (xs : List A) (t u : ℕ) (x y : A) → t ≡ u → slice_get xs t ≡ Some x
    → slice_get xs u ≡ Some y → x ≡ y
one_there xs t u x y same e f = cc

pub same_numbers : (tiling : Tiling) (xs : List Instance) (ns : List ℕ) → AreWaves tiling xs ns → (t u m n : ℕ)
    (x y : Instance) → slice_get xs t ≡ Some x → slice_get xs u ≡ Some y → slice_get ns t ≡ Some m
    → slice_get ns u ≡ Some n → wave_of tiling x ≡ wave_of tiling y → m ≡ n
same_numbers tiling xs ns h t u m n x y e f g i wave =
    nat_cases t u (λ l. told m n x y wave (waves_pair tiling xs ns h t u m n x y l e f g i))
    (λ s. one_there ns t u m n s g i)
    (λ l. sym (told n m y x (sym wave) (waves_pair tiling xs ns h u t n m y x l f e i g)))
  where
    told : (m n : ℕ) (x y : Instance) → wave_of tiling x ≡ wave_of tiling y → Tells tiling x m y n → m ≡ n
    told m n x y wave (inl k) = k.1
    told m n x y wave (inr k) =
        absurd (LexLess-irrefl (wave_of tiling y) (subst (λ w. LexLess w (wave_of tiling y)) wave k.0))

pub lesser_number : (tiling : Tiling) (xs : List Instance) (ns : List ℕ) → AreWaves tiling xs ns → (t u m n : ℕ)
    (x y : Instance) → slice_get xs t ≡ Some x → slice_get xs u ≡ Some y → slice_get ns t ≡ Some m
    → slice_get ns u ≡ Some n → LexLess (wave_of tiling x) (wave_of tiling y) → m < n
lesser_number tiling xs ns h t u m n x y e f g i less =
    nat_cases t u (λ l. told (waves_pair tiling xs ns h t u m n x y l e f g i))
    (λ s. absurd (itself (ap (wave_of tiling) (one_there xs t u x y s e f))))
    (λ l. absurd (turned (waves_pair tiling xs ns h u t n m y x l f e i g)))
  where
    itself : wave_of tiling x ≡ wave_of tiling y → ⊥
    itself same = LexLess-irrefl (wave_of tiling y) (subst (λ w. LexLess w (wave_of tiling y)) same less)

    told : Tells tiling x m y n → m < n
    told (inl k) = absurd (itself k.0)
    told (inr k) = k.1

    turned : Tells tiling y n x m → ⊥
    turned (inl k) = itself (sym k.0)
    turned (inr k) = LexLess-asym (wave_of tiling x) (wave_of tiling y) less k.0

-- there is an instance for each number
first_there : (tiling : Tiling) (x : Instance) (m : ℕ) (xs : List Instance) (ns : List ℕ) (t n : ℕ)
    → AreNextWaves tiling x m xs ns → slice_get ns t ≡ Some n → (y : Instance) × (slice_get xs t ≡ Some y)
first_there tiling x m [] [] zero n h e = absurd cc
first_there tiling x m [] [] (suc t) n h e = absurd cc
first_there tiling x m [] (k ∷ ns) t n h e = absurd h
first_there tiling x m (z ∷ xs) [] t n h e = absurd h
first_there tiling x m (z ∷ xs) (k ∷ ns) zero n h e = (z, refl)
first_there tiling x m (z ∷ xs) (k ∷ ns) (suc t) n h e = first_there tiling z k xs ns t n h.1 e

instance_there : (tiling : Tiling) (xs : List Instance) (ns : List ℕ) (t n : ℕ) → AreWaves tiling xs ns
    → slice_get ns t ≡ Some n → (y : Instance) × (slice_get xs t ≡ Some y)
instance_there tiling [] [] zero n h e = absurd cc
instance_there tiling [] [] (suc t) n h e = absurd cc
instance_there tiling [] (k ∷ ns) t n h e = absurd h
instance_there tiling (z ∷ xs) [] t n h e = absurd h
instance_there tiling (z ∷ xs) (k ∷ ns) zero n h e = (z, refl)
instance_there tiling (z ∷ xs) (k ∷ ns) (suc t) n h e = first_there tiling z k xs ns t n h.1 e

pub numbers_rise : (tiling : Tiling) (xs : List Instance) (ns : List ℕ) → AreWaves tiling xs ns → (t u m n : ℕ)
    → t ≤ u → slice_get ns t ≡ Some m → slice_get ns u ≡ Some n → m ≤ n
numbers_rise tiling xs ns h t u m n up e f =
    let x = instance_there tiling xs ns t m h e in
    let y = instance_there tiling xs ns u n h f in
    nat_cases t u (λ l. told x.0 y.0 (waves_pair tiling xs ns h t u m n x.0 y.0 l x.1 y.1 e f))
    (λ s. let one = one_there ns t u m n s e f in omega (arith, one)) (λ l. absurd (omega (arith, up, l)))
  where
    told : (x y : Instance) → Tells tiling x m y n → m ≤ n
    told x y (inl k) = let same = k.1 in omega (arith, same)
    told x y (inr k) = let less = k.1 in omega (arith, less)
